-- What the words of one position say, case by case. Assumes nothing.
use Rattle.std.specs.Prelude.{None, Option, Some}
use Prim.Native.Nat.{ℕ, ◌-◌, ◌<◌, ◌≤◌}
use mathlib.Core.Path.{◌≡◌, refl, sym, ◌∙◌, ap, ap₂}
use mathlib.Core.Bool.{Bool, true, false, ◌&&◌, not}
use mathlib.Core.List.{List, [], ◌∷◌}
use native.Mathlib.Omega.{arith}
use native.Mathlib.Decide.{ℕ_discrete}
use lib.Dec.{eqb, leb, ltb}
use borrow.Author.Tests.{eq-eqb, ne_eqb, le-leb, lt-leb, lt-ltb, le-ltb, ltb-true, ltb-false}
use lib.ListN.{length, get_or}
use lib.IntN.{ℤ, pos, negsuc}
use lib.Signed.{lt_z}
use Rattle.bench_words.specs.Codec.{pick}
use Rattle.ledger_spec.specs.Numbers.{NOTHING, STUCK}
use Rattle.ledger_spec.specs.Tests.{first}
use Rattle.ledger_spec.specs.Groups.{Group, growth, conflicts, largest, eq_z}
use Rattle.group_lent.specs.Forms.{length_of}
use Rattle.group_lent.specs.Place.{kind_in, listed, stopped, list_in, stops_in, group_in}
use Rattle.group_lent_sound.specs.Test.{entries_fit, stops_fit, head_fits, sound_in}
use Rattle.recorded_spec.specs.Recorded.{group_tests, growth_in}
use Rattle.recorded_spec.proofs.Lengths.{group_grows, above}
use Rattle.recorded_groups.specs.Recording.{growth_played, played}

-- ---- numbers
pub broken_number : first (group_tests None) ≡ 2
unfolding first group_tests
broken_number = refl

pub stuck_number : (g : Option Group) → g ≡ None → first (group_tests g) ≡ 2
stuck_number g e = ap (λ (x : Option Group). first (group_tests x)) e ∙ broken_number

module _ (n f : ℕ) where
  pub flag_bad : 1 < f → first (group_tests (growth_played n f)) ≡ 2
  flag_bad h = stuck_number (growth_played n f) (ap (λ (t : Bool). pick t (Some (growth (length_of n) (eqb f 1))) None) (lt-leb f 1 h))

  -- the two tests of a growth
  tests : (a c : Bool) (k : ℕ) → first ((a, NOTHING) ∷ (not c, STUCK) ∷ []) ≡ k → eq_z (length_of n) largest ≡ a → lt_z (pos 0) (length_of n) ≡ c → f ≤ 1 → first (group_tests (growth_played n f)) ≡ k
  unfolding group_tests
  tests a c k e p q h = ap (λ (t : Bool). first (group_tests (pick t (Some (growth (length_of n) (eqb f 1))) None))) (le-leb f 1 h)
      ∙ ap₂ (λ (x y : Bool). first ((x, NOTHING) ∷ (not y, STUCK) ∷ [])) p q ∙ e

  small_length : n < 9223372036854775808 → length_of n ≡ pos n
  small_length h = ap (λ (t : Bool). pick t (pos n) (negsuc (18446744073709551615 - n))) (lt-ltb n 9223372036854775808 h)

  large_length : 9223372036854775808 ≤ n → length_of n ≡ negsuc (18446744073709551615 - n)
  large_length h = ap (λ (t : Bool). pick t (pos n) (negsuc (18446744073709551615 - n))) (le-ltb n 9223372036854775808 h)

  pub says_nothing : f ≤ 1 → n ≡ 9223372036854775807 → first (group_tests (growth_played n f)) ≡ 21
  unfolding first
  says_nothing h e = tests true true 21 refl (ap (λ (z : ℤ). eq_z z largest) l ∙ eq-eqb n 9223372036854775807 e) (ap (lt_z (pos 0)) l ∙ lt-ltb 0 n (omega arith)) h
    where
      l : length_of n ≡ pos n
      l = small_length (omega arith)

  pub stuck_at_none : f ≤ 1 → n ≡ 0 → first (group_tests (growth_played n f)) ≡ 27
  unfolding first
  stuck_at_none h e = tests false false 27 refl (ap (λ (z : ℤ). eq_z z largest) l ∙ ne_eqb n 9223372036854775807 (λ d. omega arith)) (ap (lt_z (pos 0)) l ∙ le-ltb 0 n (omega arith)) h
    where
      l : length_of n ≡ pos n
      l = small_length (omega arith)

  pub stuck_below : f ≤ 1 → 9223372036854775807 < n → first (group_tests (growth_played n f)) ≡ 27
  unfolding first
  stuck_below h e = tests false false 27 refl (ap (λ (z : ℤ). eq_z z largest) (large_length (omega arith))) (ap (lt_z (pos 0)) (large_length (omega arith))) h

  pub goes : f ≤ 1 → 0 < n → n < 9223372036854775807 → first (group_tests (growth_played n f)) ≡ 0
  unfolding first
  goes h e k = tests false true 0 refl (ap (λ (z : ℤ). eq_z z largest) l ∙ ne_eqb n 9223372036854775807 (λ d. omega arith)) (ap (lt_z (pos 0)) l ∙ lt-ltb 0 n e) h
    where
      l : length_of n ≡ pos n
      l = small_length (omega arith)

never : (n m : ℕ) → pos n ≡ negsuc m → ⊥
never n m e = let z : ◌≡◌ {A = ℕ} 0 1 = cc in omega arith

-- ---- words
module _ (w : List ℕ) where
  pub played_short : (length w ≡ 1413 → ⊥) → played w ≡ None
  unfolding played
  played_short h = ap (λ (t : Bool). pick (t && sound_in w) (Some (group_in w)) None) (ne_eqb (length w) 1413 h)

  pub played_broken : sound_in w ≡ false → played w ≡ None
  unfolding played
  played_broken h = ap (λ (t : Bool). pick (eqb (length w) 1413 && t) (Some (group_in w)) None) h ∙ go (eqb (length w) 1413)
    where
      go : (t : Bool) → pick (t && false) (Some (group_in w)) None ≡ None
      go true = refl
      go false = refl

  sound_growth : get_or w 0 0 ≡ 1 → sound_in w ≡ leb (get_or w 2 0) 1
  unfolding sound_in
  sound_growth k = ap (λ (t : Bool). pick t (leb (get_or w 2 0) 1) (head_fits w && (entries_fit w 0 (listed w) && stops_fit w 0 0 (stopped w)))) (eq-eqb (kind_in w) 1 k)

  group_growth : get_or w 0 0 ≡ 1 → group_in w ≡ growth (length_of (get_or w 1 0)) (eqb (get_or w 2 0) 1)
  unfolding group_in
  group_growth k = ap (λ (t : Bool). pick t (growth (length_of (get_or w 1 0)) (eqb (get_or w 2 0) 1)) (conflicts (list_in w) (stops_in w))) (eq-eqb (kind_in w) 1 k)

  group_listed : (get_or w 0 0 ≡ 1 → ⊥) → group_in w ≡ conflicts (list_in w) (stops_in w)
  unfolding group_in
  group_listed k = ap (λ (t : Bool). pick t (growth (length_of (get_or w 1 0)) (eqb (get_or w 2 0) 1)) (conflicts (list_in w) (stops_in w))) (ne_eqb (kind_in w) 1 k)

  pub played_growth : length w ≡ 1413 → get_or w 0 0 ≡ 1 → played w ≡ growth_played (get_or w 1 0) (get_or w 2 0)
  unfolding played
  played_growth e k = ap (λ (t : Bool). pick (t && sound_in w) (Some (group_in w)) None) (eq-eqb (length w) 1413 e)
      ∙ ap₂ (λ (t : Bool) (g : Group). pick t (Some g) None) (sound_growth k) (group_growth k)

  pub played_listed : length w ≡ 1413 → (get_or w 0 0 ≡ 1 → ⊥) → sound_in w ≡ true → first (group_tests (played w)) ≡ 27
  unfolding played group_tests first
  played_listed e k h = ap (λ (t : Bool). first (group_tests (pick (t && sound_in w) (Some (group_in w)) None))) (eq-eqb (length w) 1413 e)
      ∙ ap₂ (λ (t : Bool) (g : Group). first (group_tests (pick t (Some g) None))) h (group_listed k)

  -- ---- where a step goes on
  -- the words are a growth's, of a length above 0 and below the largest
  pub record Going : Type 0 where
    pub long : length w ≡ 1413
    pub is : growth_in (played w) ≡ pos (get_or w 1 0)

  pub going : first (group_tests (played w)) ≡ 0 → Going
  going z = at_length (ℕ_discrete (length w) 1413)
    where
      flagged : length w ≡ 1413 → played w ≡ growth_played (get_or w 1 0) (get_or w 2 0) → (t : Bool) → leb (get_or w 2 0) 1 ≡ t → Going
      flagged e p false q = absurd (omega (arith, sym (stuck_number (played w) (p ∙ ap (λ (t : Bool). pick t (Some (growth (length_of (get_or w 1 0)) (eqb (get_or w 2 0) 1))) None) q)) ∙ z))
      flagged e p true q = record { long = e; is = n ∙ up (length_of (get_or w 1 0)) (above (length_of (get_or w 1 0)) (ap (lt_z (pos 0)) (sym n) ∙ group_grows (played w) z)) (ltb (get_or w 1 0) 9223372036854775808) refl refl }
        where
          n : growth_in (played w) ≡ length_of (get_or w 1 0)
          n = ap growth_in (p ∙ ap (λ (t : Bool). pick t (Some (growth (length_of (get_or w 1 0)) (eqb (get_or w 2 0) 1))) None) q)

          up : (z : ℤ) → ((n : ℕ) × (z ≡ pos n) × (0 < n)) → (t : Bool) → ltb (get_or w 1 0) 9223372036854775808 ≡ t → z ≡ length_of (get_or w 1 0) → z ≡ pos (get_or w 1 0)
          up z a true q e = e ∙ small_length (get_or w 1 0) 0 (ltb-true (get_or w 1 0) 9223372036854775808 q)
          up z (n, a, h) false q e = absurd (never n (18446744073709551615 - get_or w 1 0) (sym a ∙ e ∙ large_length (get_or w 1 0) 0 (ltb-false (get_or w 1 0) 9223372036854775808 q)))

      kinded : length w ≡ 1413 → Dec (get_or w 0 0 ≡ 1) → Going
      kinded e (yes k) = flagged e (played_growth e k) (leb (get_or w 2 0) 1) refl
      kinded e (no k) = sounded (sound_in w) refl
        where
          sounded : (t : Bool) → sound_in w ≡ t → Going
          sounded true h = absurd (omega (arith, sym (played_listed e k h) ∙ z))
          sounded false h = absurd (omega (arith, sym (stuck_number (played w) (played_broken h)) ∙ z))

      at_length : Dec (length w ≡ 1413) → Going
      at_length (yes e) = kinded e (ℕ_discrete (get_or w 0 0) 1)
      at_length (no h) = absurd (omega (arith, sym (stuck_number (played w) (played_short h)) ∙ z))
