-- The call below. Assumes nothing.
use Rattle.dual_ledger.proofs.obstacles.dual_ledger_group_extend.Goals as goal

pub extend-requires : goal.extend-requires
extend-requires c = tt

pub returns : goal.returns
returns c = c.extend.ensures
