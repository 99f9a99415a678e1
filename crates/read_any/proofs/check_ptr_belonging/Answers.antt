-- The verdict on the words decides: BROKEN, or the read on sound words. Assumes nothing.
use borrow.Author.Rules.{rules}
use Rattle.sound_lent.proofs.Asking.{no_bench, a_bench, fits}
use mathlib.Core.Path.{ap}
use mathlib.Core.Bool.{not}
use Rattle.read_any.proofs.check_ptr_belonging.Goals as goal

pub returns-then-not-is_bench : goal.returns-then-not-is_bench
returns-then-not-is_bench c = no_bench _ _ _ c.is_bench.ensures (ap not c.if-not-is_bench.true)

pub check_ptr_belonging-requires : goal.check_ptr_belonging-requires
check_ptr_belonging-requires c = fits c.is_bench.ensures (ap not c.if-not-is_bench.false)

pub returns : goal.returns
returns c = a_bench _ _ _ c.is_bench.ensures (ap not c.if-not-is_bench.false) c.check_ptr_belonging.ensures
