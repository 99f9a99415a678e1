-- The call below. Assumes nothing.
use Rattle.dual_ledger.proofs.obstacles.dual_ledger_group_pop_sparing_stops.Goals as goal

pub pop_sparing_stops-requires : goal.pop_sparing_stops-requires
pop_sparing_stops-requires c = tt

pub returns : goal.returns
returns c = c.pop_sparing_stops.ensures
