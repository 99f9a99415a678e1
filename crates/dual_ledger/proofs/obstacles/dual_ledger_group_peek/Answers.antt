-- The call below. Assumes nothing.
use Rattle.dual_ledger.proofs.obstacles.dual_ledger_group_peek.Goals as goal

pub peek-requires : goal.peek-requires
peek-requires c = tt

pub returns : goal.returns
returns c = c.peek.ensures
