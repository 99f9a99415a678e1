-- The verdict on the words decides: BROKEN, or the check on sound words. Assumes nothing.
use borrow.Author.Rules.{rules}
use mathlib.Core.Path.{◌∙◌}
use Rattle.sound_lent.proofs.Asking.{no_bench, a_bench, fits}
use mathlib.Core.Path.{ap}
use mathlib.Core.Bool.{not}
use Rattle.check_any.proofs.strict_check.Goals as goal

pub returns-then-not-is_bench : goal.returns-then-not-is_bench
returns-then-not-is_bench c = c.broken.ensures ∙ no_bench _ _ _ c.is_bench.ensures (ap not c.if-not-is_bench.true)

pub strict_check-requires : goal.strict_check-requires
strict_check-requires c = fits c.is_bench.ensures (ap not c.if-not-is_bench.false)

pub returns : goal.returns
returns c = a_bench _ _ _ c.is_bench.ensures (ap not c.if-not-is_bench.false) c.strict_check.ensures
