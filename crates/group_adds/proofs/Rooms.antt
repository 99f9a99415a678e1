-- Room or no room, and what a call then answers. Assumes nothing.
use Rattle.std.specs.Prelude.{None, Option, Some}
use Prim.Native.Nat.{◌≤◌, ◌<◌}
use mathlib.Core.Path.{◌≡◌, sym, ap, ◌∙◌}
use mathlib.Core.List.{List}
use borrow.Author.Tests.{le-leb, lt-leb}
use lib.ListN.{length}
use Rattle.kinds.specs.declared.Entry.{Entry}
use Rattle.kinds.specs.declared.Stop.{Stop}
use Rattle.ledger_spec.specs.Groups.{Group, conflicts, Lists, grouped, room_for}
use Rattle.groups.specs.View.{laid}
use Rattle.groups.specs.declared.Group.{Group as Code}
use Rattle.group_adds.specs.Adds.{changed}
use Rattle.group_adds.specs.declared.Changed.{Changed}

abbrev pub done : Code → Changed
done g = record { number = 0; group = g }

abbrev pub full : Code → Changed
full g = record { number = 20; group = g }

pub changed_some : (o : Option Group) (q : Group) (g : Code) → o ≡ Some q → changed o g ≡ done (laid q g)
unfolding changed
changed_some o q g e = ap (λ (i : Option Group). changed i g) e

module _ (l : List Entry) (s : List Stop) where
  pub room_yes : length l ≤ 128 → length s ≤ 128 → room_for l s ≡ Some (l, s)
  unfolding room_for
  room_yes h k = rw (le-leb _ _ h, le-leb _ _ k)

  pub room_list : 128 < length l → room_for l s ≡ None
  unfolding room_for
  room_list h = rw (lt-leb _ _ h)

  pub room_stops : length l ≤ 128 → 128 < length s → room_for l s ≡ None
  unfolding room_for
  room_stops h k = rw (le-leb _ _ h, lt-leb _ _ k)

-- an outcome in the call's answer
module _ (o : Option Lists) (g : Code) where
  pub answers_room : o ≡ None → full g ≡ changed (grouped o) g
  unfolding changed
  answers_room e = sym (ap (λ (i : Option Lists). changed (grouped i) g) e)

  pub answers_lists : (l : List Entry) (s : List Stop) (r : Code) → o ≡ Some (l, s) → r ≡ laid (conflicts l s) g → done r ≡ changed (grouped o) g
  unfolding changed
  answers_lists l s r e f = ap done f ∙ sym (ap (λ (i : Option Lists). changed (grouped i) g) e)
