-- A turn by the tests that lead to it. Assumes nothing.
use Prim.Native.Nat.{ℕ, ◌≤◌, ◌<◌}
use mathlib.Core.Path.{◌≡◌, sym, ap, ◌∙◌}
use borrow.Author.Tests.{lt-ltb, le-ltb, le-leb, lt-leb}
use Rattle.kinds.specs.Obstacles.{pair_of}
use Rattle.kinds.specs.declared.Pair.{Pair}
use Rattle.kinds.specs.declared.Obstacle.TheVariants.{Conflicting}
use Rattle.kinds.specs.declared.Stop.{Stop}
use Rattle.group_stops.specs.Places.{meeting_of}
use Rattle.group_stops.specs.declared.Meeting.{Meeting}
use Rattle.group_stops.specs.declared.Meeting.TheVariants.{Join}
use Rattle.group_merges.specs.Turns.{comes_in, meets, turn_of}
use Rattle.group_merges.specs.declared.Turn.{Turn}
use Rattle.group_merges.specs.declared.Turn.TheVariants.{Put, Enter, Full}

module _ (x y : Stop) (stops listed : ℕ) where
  pub by_pass : y.vertex.0 < x.vertex.0 → Put y 1 0 ≡ turn_of x y stops listed
  unfolding turn_of
  by_pass h = rw (lt-ltb _ _ h)

  module _ (h : x.vertex.0 ≤ y.vertex.0) where
    pub by_coming : {r : Turn} → x.vertex.0 < y.vertex.0 → r ≡ comes_in x stops → r ≡ turn_of x y stops listed
    unfolding turn_of
    by_coming v e = rw (le-ltb _ _ h, lt-ltb _ _ v) e

    pub by_meeting : {r : Turn} {t : Meeting} → y.vertex.0 ≤ x.vertex.0 → meeting_of (pair_of x.obstacle) (pair_of y.obstacle) ≡ t → r ≡ meets t x y listed → r ≡ turn_of x y stops listed
    unfolding turn_of
    by_meeting v q e = rw (le-ltb _ _ h, le-ltb _ _ v) (e ∙ ap (λ (t : Meeting). meets t x y listed) (sym q))

module _ (a b : Pair) (x y : Stop) (listed : ℕ) where
  pub by_full : 128 ≤ listed → Full ≡ meets (Join a b) x y listed
  unfolding meets
  by_full h = rw (le-leb _ _ h)

  pub by_entry : listed < 128 → Enter (record { obstacle = Conflicting a b }) ≡ meets (Join a b) x y listed
  unfolding meets
  by_entry h = rw (lt-leb _ _ h)
