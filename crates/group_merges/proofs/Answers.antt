-- What a pass answers, in the call's terms: the stops of the group by value are the first ones of its array. Assumes nothing.
use Rattle.std.specs.Prelude.{None, Some}
use Prim.Native.Nat.{◌≤◌}
use mathlib.Core.Path.{◌≡◌, ap, ◌∙◌}
use mathlib.Core.List.{List}
use lib.ListN.{length, take}
use Rattle.kinds.specs.declared.Entry.{Entry}
use Rattle.kinds.specs.declared.Stop.{Stop}
use Rattle.ledger_spec.specs.Groups.{conflicts, grouped, add_stops}
use Rattle.groups.specs.View.{stops_of, laid}
use Rattle.groups.specs.declared.Group.{Group as Code}
use Rattle.groups.proofs.View.{stops_is}
use Rattle.group_adds.specs.Adds.{changed}
use Rattle.group_adds.proofs.Rooms.{done, full, answers_room, answers_lists}

module _ (g : Code) (h : g.stopped ≤ length g.stops) (t : List Stop) (l : List Entry) where
  pub no-room-left : add_stops t l (take g.stopped g.stops) ≡ None → full g ≡ changed (grouped (add_stops t l (stops_of g))) g
  no-room-left e = answers_room (add_stops t l (stops_of g)) g (ap (add_stops t l) (stops_is g h) ∙ e)

  pub all-merged : (k : List Entry) (s : List Stop) (r : Code) → add_stops t l (take g.stopped g.stops) ≡ Some (k, s) → r ≡ laid (conflicts k s) g → done r ≡ changed (grouped (add_stops t l (stops_of g))) g
  all-merged k s r e f = answers_lists (add_stops t l (stops_of g)) g k s r (ap (add_stops t l) (stops_is g h) ∙ e) f
