-- The verdict on the words decides: BROKEN, or the read on sound words. Assumes nothing.
use mathlib.Core.Path.{◌∙◌}
use borrow.Author.Rules.{rules}
use Rattle.sound_lent.proofs.Asking.{no_bench, a_bench, fits}
use mathlib.Core.Path.{ap}
use mathlib.Core.Bool.{not}
use Rattle.read_any.proofs.sum_grow_speed.Goals as goal

pub returns-then-not-is_bench : goal.returns-then-not-is_bench
returns-then-not-is_bench c = c.no_weight.ensures ∙ no_bench _ _ _ c.is_bench.ensures (ap not c.if-not-is_bench.true)

pub sum_grow_speed-requires : goal.sum_grow_speed-requires
sum_grow_speed-requires c = fits c.is_bench.ensures (ap not c.if-not-is_bench.false)

pub returns : goal.returns
returns c = a_bench _ _ _ c.is_bench.ensures (ap not c.if-not-is_bench.false) c.sum_grow_speed.ensures
