-- Two runs of bytes stored at places that do not meet, in either order. Assumes nothing.
use Prim.Native.Nat.{ℕ, zero, suc, ◌+◌, ◌≤◌, ◌<◌}
use native.Mathlib.Omega.{arith}
use mathlib.Core.Path.{◌≡◌, refl, ◌∙◌, ap}
use mathlib.Core.List.{List, [], ◌∷◌, ◌++◌}
use lib.ListN.{length, drop, set}
use lib.Seq.{sets, sets-eq}

set_set : (l : List ℕ) (i j a b : ℕ) → i < j → set (set l i a) j b ≡ set (set l j b) i a
set_set [] i j a b h = refl
set_set (x ∷ l) zero zero a b h = absurd (omega arith)
set_set (x ∷ l) zero (suc j) a b h = refl
set_set (x ∷ l) (suc i) zero a b h = absurd (omega arith)
set_set (x ∷ l) (suc i) (suc j) a b h = ap (λ (m : List ℕ). x ∷ m) (set_set l i j a b (omega arith))

set_sets : (vs l : List ℕ) (i j a : ℕ) → i < j → sets (set l i a) j vs ≡ set (sets l j vs) i a
set_sets [] l i j a h = refl
set_sets (v ∷ vs) l i j a h = ap (λ (m : List ℕ). sets m (suc j) vs) (set_set l i j a v h) ∙ set_sets vs (set l j v) i (suc j) a (omega arith)

-- a stored at i and b further on
pub sets_apart : (a b l : List ℕ) (i j : ℕ) → i + length a ≤ j → sets (sets l i a) j b ≡ sets (sets l j b) i a
sets_apart [] b l i j h = refl
sets_apart (x ∷ a) b l i j h =
    sets_apart a b (set l i x) (suc i) j (omega arith) ∙ ap (λ (m : List ℕ). sets m (suc i) a) (set_sets b l i j x (omega arith))

pub sets_front : (a l : List ℕ) → length a ≤ length l → sets l 0 a ≡ a ++ drop (length a) l
sets_front a l h = let e : 0 + length a ≡ length a = omega arith in sets-eq a l 0 (omega arith) ∙ ap (λ (k : ℕ). a ++ drop k l) e
