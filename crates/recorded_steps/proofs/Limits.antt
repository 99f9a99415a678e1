-- What a growth in all is refused for, by two numbers: the most that the progress leaves, and the most that the values leave. Assumes nothing.
use Prim.Native.Nat.{ℕ, ◌+◌, ◌-◌, ◌≤◌, ◌<◌}
use mathlib.Core.Path.{◌≡◌, refl, sym, ◌∙◌, ap, ap₂}
use mathlib.Core.Bool.{Bool, true, false, ◌||◌}
use mathlib.Core.List.{[], ◌∷◌}
use native.Mathlib.Omega.{arith}
use native.Mathlib.Decide.{dec_lt}
use lib.Dec.{ltb}
use borrow.Author.Tests.{lt-leb, lt-ltb, le-ltb}
use lib.IntN.{ℤ, pos, ◌+ℤ◌}
use lib.Signed.{lt_z}
use Rattle.ledger_spec.specs.Numbers.{UNIT, CHILD, LENGTH, BELOW}
use Rattle.ledger_spec.specs.Bench.{Bench}
use Rattle.ledger_spec.specs.Look.{interface}
use Rattle.ledger_spec.specs.Tests.{first, is_some, below}
use Rattle.ledger_spec.specs.Refuse.{grow_tests}
use Rattle.ledger_spec.proofs.Passed.{Open}
use Rattle.recorded_steps.specs.Passes.{limit_no}

module _ (b : Bench) (u : ℕ) (o : Open b u) (p : ℕ) (is : (interface b u).progress ≡ pos p) (low : p ≤ 1099511627776) (floor : ℕ)
    (least : (l : ℕ) → l < 9223372036854775808 → below b u (pos l) ≡ ltb floor l) (n : ℕ) where
  far : Bool
  far = lt_z (pos n) (pos 0) || lt_z (pos 1099511627776) ((interface b u).progress +ℤ pos n)

  tests : (x y : Bool) → far ≡ x → below b u (pos n) ≡ y → first (grow_tests b u (pos n)) ≡ first ((x, LENGTH) ∷ (y, BELOW) ∷ [])
  unfolding grow_tests first far
  tests x y e q = ap₂ (λ (s t : Bool). first ((s, UNIT) ∷ (t, CHILD) ∷ (far, LENGTH) ∷ (below b u (pos n), BELOW) ∷ [])) (lt-leb 8 u o.low) (ap is_some o.free)
      ∙ ap₂ (λ (s t : Bool). first ((s, LENGTH) ∷ (t, BELOW) ∷ [])) e q

  far_is : far ≡ ltb 1099511627776 (p + n)
  unfolding far
  far_is = ap₂ ◌||◌ (le-ltb n 0 (omega arith)) (ap (λ (z : ℤ). lt_z (pos 1099511627776) (z +ℤ pos n)) is)

  pub limits : first (grow_tests b u (pos n)) ≡ limit_no (1099511627776 - p) floor (pos n)
  unfolding first
  limits = go (dec_lt (1099511627776 - p) n)
    where
      go : Dec (1099511627776 - p < n) → first (grow_tests b u (pos n)) ≡ limit_no (1099511627776 - p) floor (pos n)
      go (yes h) = tests true (below b u (pos n)) (far_is ∙ lt-ltb 1099511627776 (p + n) (omega arith)) refl
          ∙ sym (ap (λ (s : Bool). first ((s, LENGTH) ∷ (ltb floor n, BELOW) ∷ [])) (lt-ltb (1099511627776 - p) n h))
      go (no h) = tests false (ltb floor n) (far_is ∙ le-ltb 1099511627776 (p + n) (omega arith)) (least n (omega arith))
          ∙ sym (ap (λ (s : Bool). first ((s, LENGTH) ∷ (ltb floor n, BELOW) ∷ [])) (le-ltb (1099511627776 - p) n (omega arith)))
