-- How long a list is without its element p, and with x put in at p. Assumes nothing.
use Prim.Native.Nat.{ℕ, suc, ◌+◌, ◌-◌, ◌≤◌, ◌<◌}
use mathlib.Core.Path.{◌≡◌}
use mathlib.Core.List.{List, ◌∷◌, ◌++◌}
use native.Mathlib.Omega.{arith}
use lib.ListN.{length, take, drop, length-append, length-drop}
use lib.Seq.{length-take-le}

module _ {A : Type 0} (s : List A) (p : ℕ) where
  abbrev pub cut : List A
  cut = take p s ++ drop (suc p) s

  pub cut_long : p < length s → length cut ≡ length s - 1
  cut_long h =
      let e : length (take p s) ≡ p = length-take-le p s (omega arith) in
      omega (arith, length-append (take p s) (drop (suc p) s), length-drop (suc p) s)

  abbrev pub put : A → List A
  put x = take p s ++ x ∷ drop p s

  pub put_long : (x : A) → p ≤ length s → length (put x) ≡ length s + 1
  put_long x h =
      let e : length (take p s) ≡ p = length-take-le p s h in
      omega (arith, length-append (take p s) (x ∷ drop p s), length-drop p s)
