-- The call below. Assumes nothing.
use Rattle.dual_ledger.proofs.trusted_groups.dual_ledger_trusted_group_pop.Goals as goal

pub pop-requires : goal.pop-requires
pop-requires c = c.requires

pub returns : goal.returns
returns c = c.pop.ensures
