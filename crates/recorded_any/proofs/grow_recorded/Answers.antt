-- The verdict on the words decides: BROKEN, or the call on sound words. Assumes nothing.
use mir.Facts.{to_z-of_z}
use borrow.Author.Rules.{rules}
use Rattle.recorded_any.proofs.Verdicts.{no_bench, a_bench, sounds}
use mathlib.Core.Path.{ap}
use mathlib.Core.Bool.{not}
use mir.Syntax.{w64}
use Rattle.recorded_any.proofs.grow_recorded.Goals as goal

pub returns-then-not-is_bench : goal.returns-then-not-is_bench
returns-then-not-is_bench c = let a = c.args in no_bench a.b.now a.unit a.length a.groups.now a.out.now c.is_bench.ensures (ap not c.if-not-is_bench.true)

pub grow_recorded-requires : goal.grow_recorded-requires
grow_recorded-requires c = sounds c.is_bench.ensures (ap not c.if-not-is_bench.false)

pub returns : goal.returns
returns c =
    let a = c.args in a_bench a.b.now a.unit a.length a.groups.now a.out.now c.is_bench.ensures (ap not c.if-not-is_bench.false) (rw (to_z-of_z {w = w64} c.ranges.length) at c.grow_recorded.ensures)
