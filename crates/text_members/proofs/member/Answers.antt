-- By what the search finds. Assumes nothing.
use Rattle.std.specs.Prelude.{None, Some}
use mathlib.Core.Path.{◌≡◌}
use native.Mathlib.Omega.{arith}
use borrow.Author.Rules.{rules}
use Rattle.bench_views.proofs.Fits.{fit_of}
use Rattle.bench_serials.proofs.Scanning.{seek_at, seek_none}
use Rattle.text_members.proofs.Naming.{names_late, names_none, names_at}
use Rattle.text_members.proofs.member.Goals as goal

pub returns-then-serial : goal.returns-then-serial
returns-then-serial c = names_late c.args.b.now c.requires c.args.serial c.if-serial.true

pub seek-requires : goal.seek-requires
seek-requires c = fit_of c.args.b.now c.requires

pub overflow_cast-k : goal.overflow_cast-k
overflow_cast-k c =
    let k = c.in-Some.k in
    let q : c.seek.result ≡ Some k = cc in
    let h = (seek_at c.args.b.now c.args.serial k c.seek.ensures.seeks q).finds.low in
    record { fits = omega arith }

pub returns-in-Some : goal.returns-in-Some
returns-in-Some c =
    let k = c.in-Some.k in
    let q : c.seek.result ≡ Some k = cc in
    names_at c.args.b.now c.requires c.args.serial c.if-serial.false k
    (seek_at c.args.b.now c.args.serial k c.seek.ensures.seeks q) c.handle_word.result c.handle_word.ensures.0

pub returns-in-None : goal.returns-in-None
returns-in-None c =
    let q : c.seek.result ≡ None = cc in
    names_none c.args.b.now c.requires c.args.serial (seek_none c.args.b.now c.args.serial c.seek.ensures.seeks q)
