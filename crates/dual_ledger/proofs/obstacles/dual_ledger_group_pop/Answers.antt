-- The call below. Assumes nothing.
use Rattle.dual_ledger.proofs.obstacles.dual_ledger_group_pop.Goals as goal

pub pop-requires : goal.pop-requires
pop-requires c = tt

pub returns : goal.returns
returns c = c.pop.ensures
