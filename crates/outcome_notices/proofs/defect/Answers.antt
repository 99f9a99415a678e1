-- `defect` tells one notice. Assumes nothing.
use Rattle.outcome_notices.specs.Laid.{circle_in, laid}
use Rattle.outcome_notices.proofs.defect.Goals as goal

pub returns : goal.returns
unfolding laid circle_in
returns c = c.one.ensures
