-- Four signed numbers stored one after the other, and what a slice's parts are then. Assumes nothing.
use Prim.Native.Nat.{ℕ, suc, ◌+◌, ◌≤◌, ◌<◌}
use native.Mathlib.Omega.{arith}
use mathlib.Core.Path.{◌≡◌, sym, ◌∙◌}
use mathlib.Core.List.{List, [], ◌∷◌, ◌++◌}
use lib.IntN.{ℤ, pos}
use lib.ListN.{length, take, drop, set, length-append}
use lib.Seq.{sets, sets-eq, length-take-le, take-append_seam, drop-append_seam}
use mir.Syntax.{w64}
use mir.Val.{SFits, to_z, of_z}
use mir.Facts.{to_z-of_z, to_z_pos}

pub put_four : (l : List ℤ) (at n k : ℕ) (x y : ℤ) → n < 9223372036854775808 → k < 9223372036854775808 → SFits w64 x → SFits w64 y
    → set (set (set (set l at (to_z w64 n)) (at + 1) (to_z w64 k)) (at + 2) (to_z w64 (of_z w64 x))) (at + 3) (to_z w64 (of_z w64 y)) ≡ sets l at (pos n ∷ pos k ∷ x ∷ y ∷ [])
put_four l at n k x y h j f g =
    let one : at + 1 ≡ suc at = omega arith in
    let two : at + 2 ≡ suc (suc at) = omega arith in
    let three : at + 3 ≡ suc (suc (suc at)) = omega arith in
    λ i. set (set (set (set l at (to_z_pos w64 {n = n} h i)) (one i) (to_z_pos w64 {n = k} j i)) (two i) (to_z-of_z f i)) (three i) (to_z-of_z g i)

module _ (l vs : List ℤ) (i : ℕ) (h : i + length vs ≤ length l) where
  front : List ℤ
  front = take i l ++ vs

  long : length front ≡ i + length vs
  unfolding front
  long = omega (arith, length-append (take i l) vs, length-take-le i l (omega arith))

  parts : sets l i vs ≡ front ++ drop (i + length vs) l
  unfolding front
  parts = sets-eq vs l i h

  -- the slice up to the last store, and after it
  pub stored_front : take (i + length vs) (sets l i vs) ≡ take i l ++ vs
  unfolding front
  stored_front = (λ j. take (sym long j) (parts j)) ∙ take-append_seam front (drop (i + length vs) l)

  pub stored_behind : drop (i + length vs) (sets l i vs) ≡ drop (i + length vs) l
  stored_behind = (λ j. drop (sym long j) (parts j)) ∙ drop-append_seam front (drop (i + length vs) l)
