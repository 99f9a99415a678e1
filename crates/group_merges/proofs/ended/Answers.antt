-- `ended` lays what is left of the own stops past those that are written. Assumes nothing.
use Rattle.group_merges.proofs.ended.Goals as goal

pub returns : goal.returns
returns c = rw c.stops_laid-stops.ensures
