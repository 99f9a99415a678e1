-- The call below. Assumes nothing.
use Rattle.dual_ledger.proofs.obstacles.dual_ledger_empty_group.Goals as goal

pub empty_group-requires : goal.empty_group-requires
empty_group-requires c = tt

pub returns : goal.returns
returns c = c.empty_group.ensures
