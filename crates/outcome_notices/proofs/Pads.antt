-- A list padded to an array: a store at its end makes it one longer; and what a loop over a list has told after one element more. Assumes nothing.
use Prim.Native.Nat.{ℕ, suc, ◌+◌, ◌-◌, ◌<◌, ◌≤◌}
use mathlib.Core.Path.{◌≡◌, ap, sym, ◌∙◌}
use mathlib.Core.List.{List, [], ◌∷◌, ◌++◌, map, map-append}
use native.Mathlib.Numerals.{add-one}
use native.Mathlib.Omega.{arith}
use lib.ListN.{length, take, get_or, set, replicate, length-append, length-replicate}
use lib.Seq.{take-suc, set_at, append_snoc}
use Rattle.outcome_notices.specs.Laid.{pad}

module _ {A : Type 0} where
  pub pad_long : (d : A) (n : ℕ) (xs : List A) → length xs ≤ n → length (pad d n xs) ≡ n
  pad_long d n xs l = let e = length-append xs (replicate (n - length xs) d) in let f = length-replicate (n - length xs) d in omega arith

  pub pad_set : (d : A) (n i : ℕ) (xs : List A) (x : A) → i < n → length xs ≡ i → set (pad d n xs) i x ≡ pad d n (xs ++ (x ∷ []))
  pad_set d n i xs x l e =
      let k : n - length xs ≡ suc (n - suc i) = omega arith in
      let m : n - suc i ≡ n - length (xs ++ (x ∷ [])) = omega (arith, length-append xs (x ∷ [])) in
      ap (λ (j : ℕ). set (xs ++ replicate j d) i x) k
      ∙ set_at xs d (replicate (n - suc i) d) x i e
      ∙ sym (append_snoc xs x (replicate (n - suc i) d))
      ∙ ap (λ (j : ℕ). (xs ++ (x ∷ [])) ++ replicate j d) m

-- one element more of a list, told by f
pub map_more : {A B : Type 0} (f : A → B) (l : List A) (i : ℕ) (d : A) → i < length l → map f (take (i + 1) l) ≡ map f (take i l) ++ (f (get_or l i d) ∷ [])
map_more f l i d h = ap (λ (j : ℕ). map f (take j l)) (add-one i) ∙ ap (map f) (take-suc l i d h) ∙ map-append f (take i l) (get_or l i d ∷ [])
