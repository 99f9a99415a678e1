-- The tests of the lists alone say how long they are: a pair for every two touching words, and for one left over. Assumes nothing.
use Prim.Native.Nat.{ℕ, ◌+◌, ◌/◌, ◌%◌, ◌<◌, ◌≤◌}
use mathlib.Core.Path.{◌≡◌, refl}
use mathlib.Core.Bool.{true, false}
use mathlib.Core.List.{List, [], ◌∷◌}
use native.Mathlib.Omega.{arith}
use borrow.Author.Tests.{eq-eqb, ne_eqb, lt-ltb, le-ltb}
use lib.ListN.{length}
use Rattle.ledger_spec.specs.Bench.{Handle}
use Rattle.ledger_spec.specs.Tests.{first, empty}
use Rattle.deed_circles.specs.Given.{pairs_given}
use Rattle.refuse_circles.specs.Parts.{shape_tests}

pub pairs_length : (ts : List ℕ) → length (pairs_given ts) ≡ length ts / 2 + length ts % 2
unfolding pairs_given
pairs_length [] = refl
pairs_length (x ∷ []) = refl
pairs_length (x ∷ (y ∷ ts)) = let e = pairs_length ts in omega arith

empty_yes : {A : Type 0} (l : List A) → length l ≡ 0 → empty l ≡ true
empty_yes [] e = refl
empty_yes (x ∷ xs) e = absurd (omega arith)

empty_no : {A : Type 0} (l : List A) → (length l ≡ 0 → ⊥) → empty l ≡ false
empty_no [] ne = absurd (ne refl)
empty_no (x ∷ xs) ne = refl

module _ (hs : List Handle) (ts : List (Handle × Handle)) where
  pub shape_none : length hs ≡ 0 → 6 ≡ first (shape_tests hs ts)
  unfolding first
  shape_none e = rw (empty_yes hs e)

  module _ (some : length hs ≡ 0 → ⊥) where
    pub shape_many : 64 < length hs → 6 ≡ first (shape_tests hs ts)
    unfolding first
    shape_many l = rw (empty_no hs some, lt-ltb 64 (length hs) l)

    module _ (few : length hs ≤ 64) where
      pub shape_bare : length ts ≡ 0 → 0 ≡ first (shape_tests hs ts)
      unfolding first
      shape_bare e = rw (empty_no hs some, le-ltb 64 (length hs) few, empty_yes ts e)

      pub shape_unpaired : (length ts ≡ 0 → ⊥) → (length ts ≡ length hs → ⊥) → 7 ≡ first (shape_tests hs ts)
      unfolding first
      shape_unpaired e n = rw (empty_no hs some, le-ltb 64 (length hs) few, empty_no ts e, ne_eqb (length ts) (length hs) n)

      pub shape_paired : (length ts ≡ 0 → ⊥) → length ts ≡ length hs → 0 ≡ first (shape_tests hs ts)
      unfolding first
      shape_paired e n = rw (empty_no hs some, le-ltb 64 (length hs) few, empty_no ts e, eq-eqb (length ts) (length hs) n)
