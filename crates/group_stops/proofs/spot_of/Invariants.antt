-- Where the vertex stands among the rest is the answer. Assumes nothing.
use Rattle.std.proofs.Common.{◌≡◌, drop}
use Rattle.group_stops.specs.Places.{spot_of}
use Rattle.group_stops.proofs.spot_of.Given as goal

abbrev pub invariant-loop-i : goal.invariant-loop-i
invariant-loop-i l = spot_of 0 l.v.0 l.y-items ≡ spot_of l.i l.v.0 (drop l.i l.y-items)
