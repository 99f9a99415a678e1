-- The stops move up, the stop comes in, and the count. Assumes nothing.
use Rattle.group_lent_stops.proofs.insert.Goals as goal

pub returns : goal.returns
returns c = rw (c.put_stop.ensures, c.lift.ensures)
