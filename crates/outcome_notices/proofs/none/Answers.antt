-- `none` fills the arrays with the blank and with nobody. Assumes nothing.
use mathlib.Core.Path.{ap}
use lib.ListN.{replicate}
use Rattle.kinds.specs.declared.Handle.{Handle as Packed}
use Rattle.outcome_notices.specs.Laid.{blank, circle_in, laid}
use Rattle.outcome_notices.specs.declared.Notices.{Notices}
use Rattle.outcome_notices.proofs.none.Goals as goal

abbrev none_by : Packed → Notices
none_by h = record { told = replicate 66 blank; count = 0; circle = replicate 64 h; members = 0 }

pub returns : goal.returns
unfolding laid circle_in
returns c = ap none_by c.nobody-nobody.ensures
