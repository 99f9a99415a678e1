-- Where a vertex stands, one stop on; what the place that was found says of the stops before and from it; and what two pairs come to. Assumes nothing.
use Rattle.std.specs.Prelude.{None, Option, Some}
use Prim.Native.Nat.{ℕ, ◌+◌, ◌≤◌, ◌<◌}
use mathlib.Core.Path.{◌≡◌, sym, ap, ap₂, ◌∙◌}
use mathlib.Core.Bool.{Bool, true, false, cond}
use mathlib.Core.List.{List}
use native.Mathlib.Numerals.{add-one}
use borrow.Author.Tests.{lt-ltb, le-ltb, eq-eqb, ne_eqb}
use lib.ListN.{length, drop, get_or}
use lib.Seq.{drop-cons}
use Rattle.std.proofs.lemmas.List.{drop_all}
use Rattle.kinds.specs.Names.{same_code}
use Rattle.kinds.specs.declared.Pair.{Pair}
use Rattle.kinds.specs.declared.Stop.{Stop}
use Rattle.group_stops.specs.Places.{spot_of, meeting_of}
use Rattle.group_stops.specs.declared.Spot.TheVariants.{Free, Held}
use Rattle.group_stops.specs.declared.Meeting.TheVariants.{Keep, Replace, Join}

module _ (s : List Stop) (i v : ℕ) (d : Stop) where
  pub spot_end : length s ≤ i → spot_of i v (drop i s) ≡ Free i
  unfolding spot_of
  spot_end h = rw (drop_all i s h)

  module _ (h : i < length s) where
    pub spot_free : v < (get_or s i d).vertex.0 → spot_of i v (drop i s) ≡ Free i
    unfolding spot_of
    spot_free e = ap (spot_of i v) (drop-cons s i d h) ∙ rw (lt-ltb _ _ e)

    pub spot_held : (get_or s i d).vertex.0 ≤ v → v ≡ (get_or s i d).vertex.0 → spot_of i v (drop i s) ≡ Held i (get_or s i d)
    unfolding spot_of
    spot_held e f = ap (spot_of i v) (drop-cons s i d h) ∙ rw (le-ltb _ _ e, eq-eqb _ _ f)

    pub spot_goes : (get_or s i d).vertex.0 ≤ v → (v ≡ (get_or s i d).vertex.0 → ⊥) → spot_of i v (drop i s) ≡ spot_of (i + 1) v (drop (i + 1) s)
    unfolding spot_of
    spot_goes e f = ap (spot_of i v) (drop-cons s i d h) ∙ rw (le-ltb _ _ e, ne_eqb _ _ f, add-one i)
