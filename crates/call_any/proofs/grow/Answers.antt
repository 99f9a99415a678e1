-- BROKEN on words that hold no sound bench; else the call on sound words. Assumes nothing.
use borrow.Author.Rules.{rules}
use mathlib.Core.Path.{refl}
use Rattle.call_told.proofs.Telling.{grow_told}
use Rattle.call_any.proofs.Public.{no_bench, sound_bench, answers}
use mathlib.Core.Path.{ap}
use mathlib.Core.Bool.{not}
use Rattle.call_any.proofs.grow.Goals as goal

pub returns-then-not-is_bench : goal.returns-then-not-is_bench
returns-then-not-is_bench c = no_bench c.is_bench.ensures (ap not c.if-not-is_bench.true) c.refused.ensures refl

pub grow-requires : goal.grow-requires
grow-requires c = sound_bench c.is_bench.ensures (ap not c.if-not-is_bench.false)

pub returns : goal.returns
returns c = answers c.is_bench.ensures (ap not c.if-not-is_bench.false) (grow_told c.ranges.length c.grow.ensures)
