-- The hint only says where to look first; what is found is stored in its place. Assumes nothing.
use Rattle.std.specs.Prelude.{None, Some}
use mathlib.Core.Path.{◌≡◌, refl}
use native.Mathlib.Omega.{arith}
use borrow.Author.Rules.{rules}
use Rattle.bench_serials.proofs.Scanning.{seek_at, seek_none}
use Rattle.bench_serials.proofs.seek.Goals as goal

pub overflow_cast-hints : goal.overflow_cast-hints
overflow_cast-hints c =
    let q : c.look.result ≡ Some c.in_ok-p.p = search rules in
    let h = (seek_at c.args.b.now c.args.serial.0 c.in_ok-p.p c.look.ensures q).finds.low in
    record { fits = omega arith }

pub returns-in_err-p : goal.returns-in_err-p
returns-in_err-p c =
    let q : c.look.result ≡ None = search rules in
    let w : c.from_residual.result ≡ None = search rules in
    rw w (record { seeks = seek_none c.args.b.now c.args.serial.0 c.look.ensures q; hints_after = refl })

pub returns : goal.returns
returns c =
    let q : c.look.result ≡ Some c.in_ok-p.p = search rules in
    record { seeks = seek_at c.args.b.now c.args.serial.0 c.in_ok-p.p c.look.ensures q; hints_after = refl }
