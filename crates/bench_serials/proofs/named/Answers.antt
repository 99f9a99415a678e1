-- The handle of the position found, or the ledger's for none. Assumes nothing.
use Rattle.std.specs.Prelude.{None, Some}
use mathlib.Core.Path.{◌≡◌, ◌∙◌}
use Rattle.bench_serials.proofs.Scanning.{seek_at, seek_none}
use Rattle.bench_serials.proofs.named.Goals as goal

pub handle_at-requires : goal.handle_at-requires
handle_at-requires c =
    let k = c.in-Some.k in
    let q : c.seek.result ≡ Some k = cc in
    (seek_at c.args.b.now c.args.serial.0 k c.seek.ensures.seeks q).finds.low

pub returns-in-Some : goal.returns-in-Some
returns-in-Some c =
    let k = c.in-Some.k in
    let q : c.seek.result ≡ Some k = cc in
    c.handle_at.ensures ∙ (seek_at c.args.b.now c.args.serial.0 k c.seek.ensures.seeks q).same

pub returns-in-None : goal.returns-in-None
returns-in-None c =
    let q : c.seek.result ≡ None = cc in
    (seek_none c.args.b.now c.args.serial.0 c.seek.ensures.seeks q).same
