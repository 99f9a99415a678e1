-- The call below. Assumes nothing.
use Rattle.dual_ledger.proofs.trusted_groups.dual_ledger_trusted_group_peek.Goals as goal

pub peek-requires : goal.peek-requires
peek-requires c = c.requires

pub returns : goal.returns
returns c = c.peek.ensures
