-- The entry, the stops moved down, and the two counts. Assumes nothing.
use mathlib.Core.Path.{ap, ◌∙◌}
use native.Mathlib.Omega.{arith}
use lib.ListN.{length, length-set}
use Rattle.group_lent_stops.proofs.join.Goals as goal

pub slide-requires : goal.slide-requires
slide-requires c =
    (ap length c.put_five.ensures ∙ simp length-set c.requires.0, omega arith)

pub returns : goal.returns
returns c =
    rw (c.slide.ensures, c.put_five.ensures, c.five_at-y.ensures)
