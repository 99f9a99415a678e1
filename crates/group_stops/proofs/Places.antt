-- A stop comes in at a place and one goes, as std's copy leaves the array: the changed list is laid over it. Assumes nothing.
use Prim.Native.Nat.{ℕ, ◌+◌, ◌-◌, ◌≤◌, ◌<◌}
use mathlib.Core.Path.{◌≡◌, sym}
use mathlib.Core.List.{List, [], ◌∷◌, ◌++◌, append_assoc}
use native.Mathlib.Numerals.{add-one}
use native.Mathlib.Omega.{arith}
use lib.ListN.{length, take, drop, get_or, set, length-append, length-drop}
use lib.Seq.{length-take-le, take-suc, take-take, set_at}
use Rattle.std.specs.List.{copy_within}
use Rattle.std.proofs.lemmas.Slice.{between_is}
use Rattle.groups.specs.View.{over}
use Rattle.group_stops.specs.Places.{inserted_at, removed_at}

module _ {A : Type 0} (s : List A) (p n : ℕ) (k : n ≤ length s) where
  pub comes_in : (x d : A) → p ≤ n → n < length s → set (copy_within s p n (p + 1)) p x ≡ over (inserted_at p x (take n s)) s
  comes_in x d h m =
      let t : take (p + 1) s ≡ take p s ++ get_or s p d ∷ [] = rw (add-one p) (take-suc s p d (omega arith)) in
      let e : take p (take n s) ≡ take p s = take-take p n s h in
      let f : drop p (take n s) ≡ take (n - p) (drop p s) = sym (between_is s p n) in
      let front : length (take p s) ≡ p = length-take-le p s (omega arith) in
      let rest : length (take (n - p) (drop p s)) ≡ n - p = length-take-le (n - p) (drop p s) (rw (length-drop p s) (omega arith)) in
      let all : length (take p s ++ x ∷ take (n - p) (drop p s)) ≡ p + 1 + (n - p) = omega (arith, length-append (take p s) (x ∷ take (n - p) (drop p s))) in
      let kept : List A = take (n - p) (drop p s) in
      let past : List A = drop (p + 1 + (n - p)) s in
      let left = append_assoc (take p s ++ get_or s p d ∷ []) kept past in
      rw (t, e, f, all, left, append_assoc (take p s) (get_or s p d ∷ []) (kept ++ past), append_assoc (take p s) (x ∷ kept) past)
      (set_at (take p s) (get_or s p d) (kept ++ past) x p front)

  pub goes_out : p < n → copy_within s (p + 1) n p ≡ over (removed_at p (take n s)) s
  goes_out h =
      let e : take p (take n s) ≡ take p s = take-take p n s (omega arith) in
      let f : drop (p + 1) (take n s) ≡ take (n - (p + 1)) (drop (p + 1) s) = sym (between_is s (p + 1) n) in
      let front : length (take p s) ≡ p = length-take-le p s (omega arith) in
      let rest : length (take (n - (p + 1)) (drop (p + 1) s)) ≡ n - (p + 1) =
      length-take-le (n - (p + 1)) (drop (p + 1) s) (rw (length-drop (p + 1) s) (omega arith)) in
      let all : length (take p s ++ take (n - (p + 1)) (drop (p + 1) s)) ≡ p + (n - (p + 1)) =
      omega (arith, length-append (take p s) (take (n - (p + 1)) (drop (p + 1) s))) in
      rw (← add-one p, e, f, all, append_assoc)
