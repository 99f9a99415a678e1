-- A decimal is its last digit after the decimal of what is left: the fuel of `digits` makes no difference, and nobody opens it again.
-- Assumes nothing.
use Prim.Native.Nat.{ℕ, zero, suc, ◌+◌, ◌/◌, ◌%◌, ◌≤◌, ◌<◌}
use native.Mathlib.Omega.{arith}
use mathlib.Core.Path.{◌≡◌, refl, sym, ◌∙◌, ap}
use mathlib.Core.Bool.{Bool, true, false}
use mathlib.Core.List.{List, [], ◌∷◌, ◌++◌}
use lib.Dec.{ltb}
use borrow.Author.Tests.{lt-ltb, le-ltb, ltb-true, ltb-false}
use Rattle.ledger_spec.specs.Decimals.{digits, decimal}

digits_small : (k n : ℕ) → n < 10 → digits k n ≡ (48 + n) ∷ []
unfolding digits
digits_small zero n h = refl
digits_small (suc k) n h = rw (lt-ltb n 10 h, digits)

digits_more : (k n : ℕ) → 10 ≤ n → digits (suc k) n ≡ digits k (n / 10) ++ ((48 + n % 10) ∷ [])
unfolding digits
digits_more k n h = rw (le-ltb n 10 h, digits)

enough : (k m n : ℕ) → n ≤ k → n ≤ m → digits k n ≡ digits m n
enough zero m n p q = digits_small zero n (omega arith) ∙ sym (digits_small m n (omega arith))
enough (suc k) zero n p q = digits_small (suc k) n (omega arith) ∙ sym (digits_small zero n (omega arith))
enough (suc k) (suc m) n p q = go (ltb n 10) refl (enough k m (n / 10))
  where
    go : (b : Bool) → ltb n 10 ≡ b → (n / 10 ≤ k → n / 10 ≤ m → digits k (n / 10) ≡ digits m (n / 10)) → digits (suc k) n ≡ digits (suc m) n
    go true e r = let h = ltb-true n 10 e in digits_small (suc k) n h ∙ sym (digits_small (suc m) n h)
    go false e r = let h = ltb-false n 10 e in
        digits_more k n h ∙ ap (λ (l : List ℕ). l ++ ((48 + n % 10) ∷ [])) (r (omega arith) (omega arith)) ∙ sym (digits_more m n h)

pub decimal_small : (n : ℕ) → n < 10 → decimal n ≡ (48 + n) ∷ []
unfolding decimal
decimal_small n h = digits_small n n h

pub decimal_more : (n : ℕ) → 10 ≤ n → decimal n ≡ decimal (n / 10) ++ ((48 + n % 10) ∷ [])
unfolding decimal
decimal_more zero h = absurd (omega arith)
decimal_more (suc n) h =
    digits_more n (suc n) h ∙ ap (λ (l : List ℕ). l ++ ((48 + suc n % 10) ∷ [])) (enough n (suc n / 10) (suc n / 10) (omega arith) (omega arith))
