-- A turn of the loop passes one stop below the vertex. Assumes nothing.
use Prim.Native.Nat.{◌+◌, ◌-◌, ◌≤◌}
use mathlib.Core.Path.{◌≡◌}
use lib.ListN.{length}
use Rattle.ledger_spec.specs.Groups.{front_of}
use Rattle.group_lent.specs.Groups.{stop_at}
use Rattle.group_lent.specs.Place.{run}
use Rattle.group_lent_stops.specs.Stops.{place_in}
use Rattle.group_lent_stops.proofs.place_of.Given as goal

abbrev pub invariant-loop-p : goal.invariant-loop-p
invariant-loop-p l = (l.p ≤ l.m) × (place_in l.w l.v ≡ l.p + length (front_of l.v (run (stop_at l.w) l.p (l.m - l.p))))
