-- The call below. Assumes nothing.
use Rattle.dual_ledger.proofs.trusted_groups.dual_ledger_trusted_group_pop_sparing_stops.Goals as goal

pub pop_sparing_stops-requires : goal.pop_sparing_stops-requires
pop_sparing_stops-requires c = c.requires

pub returns : goal.returns
returns c = c.pop_sparing_stops.ensures
