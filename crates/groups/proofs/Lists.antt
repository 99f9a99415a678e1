-- The first n of an array: one element on, and none left; and the same read by count. Assumes nothing.
use Prim.Native.Nat.{ℕ, zero, suc, ◌+◌, ◌≤◌, ◌<◌}
use mathlib.Core.Path.{◌≡◌, refl, ap, ◌∙◌}
use mathlib.Core.List.{List, [], ◌∷◌, ◌++◌}
use native.Mathlib.Numerals.{add-one}
use native.Mathlib.Nat.{le_of_suc-le-suc}
use native.Mathlib.Omega.{arith}
use lib.ListN.{length, take, drop, get_or, drop_of_length-le, take-append-drop}
use lib.Seq.{drop-cons, get_or-take, length-take-le}
use Rattle.groups.specs.View.{counted, over}

module _ {A : Type 0} where
  -- what is left of the first n, one element on
  pub step : (n i : ℕ) (l : List A) (d : A) → i < n → n ≤ length l → drop i (take n l) ≡ get_or l i d ∷ drop (i + 1) (take n l)
  step n i l d h k =
      let e : length (take n l) ≡ n = length-take-le n l k in
      let p : i < length (take n l) = omega arith in
      drop-cons (take n l) i d p ∙ rw (get_or-take n l i d h, add-one)

  -- nothing is left of the first n after n
  pub spent : (n i : ℕ) (l : List A) → n ≤ i → n ≤ length l → drop i (take n l) ≡ []
  spent n i l h k = drop_of_length-le (take n l) {i = i} (rw (length-take-le n l k) h)

  -- ---- by count
  module _ (d : A) where
    pub counted_long : (n : ℕ) (l : List A) → length (counted d n l) ≡ n
    unfolding counted
    counted_long zero l = refl
    counted_long (suc n) [] = ap suc (counted_long n [])
    counted_long (suc n) (x ∷ l) = ap suc (counted_long n l)

    pub counted_take : (n : ℕ) (l : List A) → n ≤ length l → counted d n l ≡ take n l
    unfolding counted
    counted_take zero l h = refl
    counted_take (suc n) [] h = absurd (omega arith)
    counted_take (suc n) (x ∷ l) h = ap (λ (r : List A). x ∷ r) (counted_take n l (le_of_suc-le-suc h))

    -- what was laid over the front is what is counted
    pub counted_over : (xs l : List A) → counted d (length xs) (xs ++ l) ≡ xs
    unfolding counted
    counted_over [] l = refl
    counted_over (x ∷ xs) l = ap (λ (r : List A). x ∷ r) (counted_over xs l)

  -- an array with its own front laid over it
  pub over_same : (n : ℕ) (l : List A) → n ≤ length l → over (take n l) l ≡ l
  over_same n l h = rw (length-take-le n l h) (take-append-drop n l)
