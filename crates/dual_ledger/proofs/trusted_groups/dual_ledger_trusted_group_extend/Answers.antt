-- The call below. Assumes nothing.
use Rattle.dual_ledger.proofs.trusted_groups.dual_ledger_trusted_group_extend.Goals as goal

pub extend-requires : goal.extend-requires
extend-requires c = c.requires

pub returns : goal.returns
returns c = c.extend.ensures
