-- What was measured says whether the text fits, since every slice is shorter than the largest place. Assumes nothing.
use Prim.Native.Nat.{ℕ, ◌+◌, ◌<◌, ◌≤◌}
use mathlib.Core.Path.{◌≡◌, ap, ap₂, ◌∙◌}
use mathlib.Core.Logic.{by_cases}
use mathlib.Core.List.{List, ◌++◌}
use native.Mathlib.Decide.{dec_lt}
use native.Mathlib.Omega.{arith}
use lib.ListN.{length, drop}
use lib.Seq.{sets-eq}
use borrow.Author.Tests.{lt-ltb, le-ltb}
use Rattle.picture_pieces.specs.Drawn.{most, Drawn}
use Rattle.picture_sound.specs.Fitted.{fitted}

module _ (t out : List ℕ) where
  too_long : length out < length t → (19, (0, out)) ≡ fitted t out
  unfolding fitted
  too_long l = rw (lt-ltb (length out) (length t) l, fitted)

  fitting : length t ≤ length out → (0, (length t, t ++ drop (length t) out)) ≡ fitted t out
  unfolding fitted
  fitting l = rw (le-ltb (length out) (length t) l, fitted)

  module _ (o o' : List ℕ) (n : ℕ) (D : Drawn o 0 t o' n) where
    pub measured_small : length out < n → (19, (0, out)) ≡ fitted t out
    measured_small l = too_long (by_cases (dec_lt most (length t))
        (λ (g : most < length t). let x = D.full (omega arith) (omega arith) in omega arith)
        (λ (g : most < length t → ⊥). let x = D.next (omega arith) in omega arith))

    pub measured_fits : length out < most → n ≤ length out → length t ≤ length out
    measured_fits s l = by_cases (dec_lt most (length t))
        (λ (g : most < length t). let x = D.full (omega arith) (omega arith) in absurd (omega arith))
        (λ (g : most < length t → ⊥). let x = D.next (omega arith) in omega arith)

  pub written : length out < most → length t ≤ length out → (out' : List ℕ) (r : ℕ) → Drawn out 0 t out' r → (0, (r, out')) ≡ fitted t out
  written s l out' r D =
      let z : 0 + length t ≡ length t = omega arith in
      let x : r ≡ length t = D.next (omega arith) ∙ z in
      let y : out' ≡ t ++ drop (length t) out = D.stands (omega arith) (omega arith) ∙ sets-eq t out 0 (omega arith) ∙ ap (λ (n : ℕ). t ++ drop n out) z in
      ap₂ (λ (k : ℕ) (w : List ℕ). (0, (k, w))) x y ∙ fitting l
