-- `one` puts one entry before the blanks. Assumes nothing.
use mathlib.Core.Path.{ap}
use lib.ListN.{set}
use Rattle.outcome_notices.specs.Laid.{circle_in, laid}
use Rattle.outcome_notices.specs.declared.Notices.{Notices}
use Rattle.outcome_notices.proofs.Telling.{told}
use Rattle.outcome_notices.proofs.one.Goals as goal

pub returns : goal.returns
unfolding laid circle_in
returns c = ap (λ (r : Notices). told (set r.told 0 c.args.e) r.circle 1 r.members) c.none-r.ensures
