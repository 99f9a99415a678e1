-- BROKEN on words that hold no sound bench; else the call on sound words answers. Assumes nothing.
use mathlib.Core.Path.{refl}
use Rattle.dual_ledger.proofs.Telling.{sound_so, called_broken, called_sound}
use borrow.Author.Rules.{rules}
use mathlib.Core.Path.{ap}
use mathlib.Core.Bool.{not}
use Rattle.dual_ledger.proofs.open_calls.dual_ledger_create_defect_node.Goals as goal

pub returns-then-not-is_bench : goal.returns-then-not-is_bench
returns-then-not-is_bench c = called_broken c.is_bench.ensures (ap not c.if-not-is_bench.true) _ c.refused.ensures refl

pub dual_ledger_told_create_defect_node-requires : goal.dual_ledger_told_create_defect_node-requires
dual_ledger_told_create_defect_node-requires c = sound_so c.is_bench.ensures (ap not c.if-not-is_bench.false)

pub returns : goal.returns
returns c = called_sound c.is_bench.ensures (ap not c.if-not-is_bench.false) _ c.dual_ledger_told_create_defect_node.ensures
