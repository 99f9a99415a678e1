-- Each way through the code, by its tests: the number and words that the definition has there. Assumes nothing.
use Prim.Native.Nat.{ℕ, ◌+◌, ◌<◌, ◌≤◌}
use mathlib.Core.Path.{◌≡◌, sym, ap, ◌∙◌}
use mathlib.Core.Bool.{Bool, true, false, ◌&&◌}
use mathlib.Core.List.{List}
use native.Mathlib.Omega.{arith}
use borrow.Author.Tests.{eq-eqb, ne_eqb, ltb-true, lt-ltb, le-ltb}
use lib.Dec.{eqb, ltb}
use lib.ListN.{get_or}
use Rattle.group_lent.specs.Forms.{same_hand, five_at}
use Rattle.group_lent.specs.Groups.{stop_at}
use Rattle.group_lent.specs.declared.Five.{Five}
use Rattle.group_lent.proofs.Stores.{and_left}
use Rattle.group_lent.specs.Place.{kind_in, listed, stopped}
use Rattle.group_lent_takes.specs.After.{grown_words, listed_words}
use Rattle.group_lent_takes.specs.Made.{Added}
use Rattle.group_lent_stops.specs.Stops.{added_words, spot, place_in, one_stop, inserted, replaced, joined, meet_out, place_out, stop_out}
use Rattle.group_lent_stops.proofs.Places.{splits}

module _ (ws : List ℕ) (f : Five) (v p : ℕ) where
  pub met_keep : f.kind ≡ 5 → (0, ws) ≡ meet_out ws f v p
  unfolding meet_out
  met_keep e = rw (eq-eqb f.kind 5 e)

  module _ (n : f.kind ≡ 5 → ⊥) where
    pub met_replace : get_or ws (spot p + 1) 0 ≡ 5 → (after : List ℕ) → after ≡ replaced ws f v p → (0, after) ≡ meet_out ws f v p
    unfolding meet_out five_at
    met_replace e after d = rw (d, ne_eqb f.kind 5 n, eq-eqb (get_or ws (spot p + 1) 0) 5 e)

    module _ (m : get_or ws (spot p + 1) 0 ≡ 5 → ⊥) where
      abbrev third : spot p + 3 ≡ spot p + 1 + 2
      third = omega arith

      -- the test whether the two pairs have one first node
      tested : (t r : Bool) → t ≡ same_hand f.b (get_or ws (spot p + 3) 0) → t ≡ r → same_hand f.b (get_or ws (spot p + 1 + 2) 0) ≡ r
      tested t r e d = ap (λ (i : ℕ). same_hand f.b (get_or ws i 0)) (sym third) ∙ sym e ∙ d

      pub met_drop : (t : Bool) → t ≡ same_hand f.b (get_or ws (spot p + 3) 0) → t ≡ true → (0, ws) ≡ meet_out ws f v p
      unfolding meet_out five_at
      met_drop t e d = rw (ne_eqb f.kind 5 n, ne_eqb (get_or ws (spot p + 1) 0) 5 m, tested t true e d)

      module _ (t : Bool) (e : t ≡ same_hand f.b (get_or ws (spot p + 3) 0)) (d : t ≡ false) where
        unlike : same_hand f.b (get_or ws (spot p + 1 + 2) 0) ≡ false
        unlike = tested t false e d

        pub met_full : 128 ≤ listed ws → (20, ws) ≡ meet_out ws f v p
        unfolding meet_out five_at
        met_full h = rw (ne_eqb f.kind 5 n, ne_eqb (get_or ws (spot p + 1) 0) 5 m, unlike, le-ltb (listed ws) 128 h)

        pub met_join : listed ws < 128 → (after : List ℕ) → after ≡ joined ws f p → (0, after) ≡ meet_out ws f v p
        unfolding meet_out five_at
        met_join h after g =
            ap (λ (r : List ℕ). (0, r)) g ∙ rw (ne_eqb f.kind 5 n, ne_eqb (get_or ws (spot p + 1) 0) 5 m, unlike, lt-ltb (listed ws) 128 h)

pub place_within : (ws : List ℕ) (v p : ℕ) → p ≡ place_in ws v → p ≤ stopped ws
unfolding place_in
place_within ws v p e = rw e (splits (stop_at ws) v 0 (stopped ws)).low

pub held_within : (ws : List ℕ) (v p : ℕ) (b : Bool) → b ≡ (ltb p (stopped ws) && eqb (get_or ws (spot p) 0) v) → b ≡ true → p < stopped ws
held_within ws v p b e t = ltb-true p (stopped ws) (and_left (ltb p (stopped ws)) (eqb (get_or ws (spot p) 0) v) (sym e ∙ t))

module _ (ws : List ℕ) (f : Five) (v : ℕ) where
  pub out_growth : kind_in ws ≡ 1 → (after : List ℕ) → after ≡ one_stop ws f v → (0, after) ≡ stop_out ws f v
  unfolding stop_out
  out_growth e after d = rw (d, eq-eqb (kind_in ws) 1 e)

  module _ (n : kind_in ws ≡ 1 → ⊥) (p : ℕ) (e : p ≡ place_in ws v) where
    placed_out : stop_out ws f v ≡ place_out ws f v p
    unfolding stop_out
    placed_out = rw (ne_eqb (kind_in ws) 1 n) (ap (place_out ws f v) (sym e))

    module _ (b : Bool) (h : b ≡ (ltb p (stopped ws) && eqb (get_or ws (spot p) 0) v)) where
      pub out_meet : b ≡ true → (o : ℕ × List ℕ) → o ≡ meet_out ws f v p → o ≡ stop_out ws f v
      unfolding place_out
      out_meet t o g = g ∙ sym (placed_out ∙ rw (sym h ∙ t))

      pub out_full : b ≡ false → 128 ≤ stopped ws → (20, ws) ≡ stop_out ws f v
      unfolding place_out
      out_full t g = sym (placed_out ∙ rw (sym h ∙ t, le-ltb (stopped ws) 128 g))

      pub out_insert : b ≡ false → stopped ws < 128 → (after : List ℕ) → after ≡ inserted ws f v p → (0, after) ≡ stop_out ws f v
      unfolding place_out
      out_insert t g after d = ap (λ (r : List ℕ). (0, r)) d ∙ sym (placed_out ∙ rw (sym h ∙ t, lt-ltb (stopped ws) 128 g))

-- ---- any obstacle, by its kind

module _ (ws : List ℕ) (f : Five) (v r : ℕ) (after : List ℕ) where
  pub add_growth : f.kind ≡ 1 → Added f v ws (grown_words ws f) r after → Added f v ws (added_words ws f v) r after
  unfolding added_words
  add_growth e a = rw (eq-eqb f.kind 1 e) a

  module _ (n : f.kind ≡ 1 → ⊥) where
    pub add_listed : f.kind < 5 → Added f v ws (listed_words ws f) r after → Added f v ws (added_words ws f v) r after
    unfolding added_words
    add_listed h a = rw (ne_eqb f.kind 1 n, lt-ltb f.kind 5 h) a

    pub add_stop_lem : 5 ≤ f.kind → Added f v ws (stop_out ws f v).1 r after → Added f v ws (added_words ws f v) r after
    unfolding added_words
    add_stop_lem h a = rw (ne_eqb f.kind 1 n, le-ltb f.kind 5 h) a
