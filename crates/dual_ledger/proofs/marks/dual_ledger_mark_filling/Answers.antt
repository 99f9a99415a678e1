-- BROKEN on words that hold no sound bench; else the call on sound words answers. Assumes nothing.
use mathlib.Core.Path.{refl}
use Rattle.dual_ledger.proofs.Telling.{sound_so, left_broken, left_settled}
use borrow.Author.Rules.{rules}
use mathlib.Core.Path.{ap}
use mathlib.Core.Bool.{not}
use Rattle.dual_ledger.proofs.marks.dual_ledger_mark_filling.Goals as goal

pub returns-then-not-is_bench : goal.returns-then-not-is_bench
returns-then-not-is_bench c = left_broken c.is_bench.ensures (ap not c.if-not-is_bench.true) refl refl

pub dual_ledger_trusted_mark_filling-requires : goal.dual_ledger_trusted_mark_filling-requires
dual_ledger_trusted_mark_filling-requires c = sound_so c.is_bench.ensures (ap not c.if-not-is_bench.false)

pub returns : goal.returns
returns c = left_settled c.is_bench.ensures (ap not c.if-not-is_bench.false) c.dual_ledger_trusted_mark_filling.ensures
