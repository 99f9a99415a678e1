-- The verdict on the words decides: BROKEN, or the read on sound words. Assumes nothing.
use mathlib.Core.Path.{◌∙◌}
use borrow.Author.Rules.{rules}
use Rattle.sound_lent.proofs.Asking.{no_bench, a_bench, fits}
use mathlib.Core.Path.{ap}
use mathlib.Core.Bool.{not}
use Rattle.read_any.proofs.get_dual_variable.Goals as goal

pub returns-then-not-is_bench : goal.returns-then-not-is_bench
returns-then-not-is_bench c = c.no_weight.ensures ∙ no_bench _ _ _ c.is_bench.ensures (ap not c.if-not-is_bench.true)

pub get_dual_variable-requires : goal.get_dual_variable-requires
get_dual_variable-requires c = fits c.is_bench.ensures (ap not c.if-not-is_bench.false)

pub returns : goal.returns
returns c = a_bench _ _ _ c.is_bench.ensures (ap not c.if-not-is_bench.false) c.get_dual_variable.ensures
