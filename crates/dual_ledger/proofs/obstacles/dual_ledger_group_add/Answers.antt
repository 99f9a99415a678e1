-- The call below. Assumes nothing.
use Rattle.dual_ledger.proofs.obstacles.dual_ledger_group_add.Goals as goal

pub add-requires : goal.add-requires
add-requires c = tt

pub returns : goal.returns
returns c = c.add.ensures
