-- One text written after the other stands as the two together; a decimal is written digit by digit from its front. Assumes nothing.
use Prim.Native.Nat.{ℕ, suc, ◌+◌, ◌/◌, ◌%◌, ◌≤◌, ◌<◌}
use native.Mathlib.Omega.{arith}
use native.Mathlib.Nat.{add-zero}
use mathlib.Core.Path.{◌≡◌, refl, sym, ◌∙◌, ap}
use mathlib.Core.List.{List, [], ◌∷◌, ◌++◌}
use lib.ListN.{length, length-append, set}
use lib.Seq.{sets, length-sets}
use Rattle.ledger_spec.specs.Decimals.{decimal}
use Rattle.text_decimals.specs.Wrote.{Wrote}
use Rattle.text_decimals.proofs.Digits.{decimal_small, decimal_more}

over : (i k : ℕ) → suc i + k ≡ i + suc k
over i k = omega arith

pub sets_append : (a b l : List ℕ) (i : ℕ) → sets l i (a ++ b) ≡ sets (sets l i a) (i + length a) b
sets_append [] b l i = rw add-zero
sets_append (x ∷ a) b l i = sets_append a b (set l i x) (suc i) ∙ ap (λ (k : ℕ). sets (sets (set l i x) (suc i) a) k b) (over i (length a))

-- ---- one text after the other

pub chain : (o : List ℕ) (at : ℕ) (a o₁ : List ℕ) (p : ℕ) (b o₂ : List ℕ) (q : ℕ) → Wrote o at a o₁ p → Wrote o₁ p b o₂ q → Wrote o at (a ++ b) o₂ q
chain o at a o₁ p b o₂ q v w = record {
  next = omega (arith, v.next, w.next, length-append a b);
  stands = w.stands ∙ (λ i. sets (v.stands i) (v.next i) b) ∙ sym (sets_append a b o at);
}

pub byte_wrote : (o : List ℕ) (at c : ℕ) → Wrote o at (c ∷ []) (set o at c) (at + 1)
byte_wrote o at c = record { next = refl; stands = refl }

-- a byte and then a text
pub after_byte : (o : List ℕ) (at c : ℕ) (b o₂ : List ℕ) (q : ℕ) → Wrote (set o at c) (at + 1) b o₂ q → Wrote o at (c ∷ b) o₂ q
after_byte o at c b o₂ q w = chain o at (c ∷ []) (set o at c) (at + 1) b o₂ q (byte_wrote o at c) w

pub same_text : (o : List ℕ) (at : ℕ) (a b o' : List ℕ) (q : ℕ) → a ≡ b → Wrote o at a o' q → Wrote o at b o' q
same_text o at a b o' q e w = rw (sym e) w

pub length_wrote : (o : List ℕ) (at : ℕ) (a o₁ : List ℕ) (p : ℕ) → Wrote o at a o₁ p → length o₁ ≡ length o
length_wrote o at a o₁ p w = ap length w.stands ∙ length-sets o at a

-- ---- a decimal

pub one_digit : (n : ℕ) → n < 10 → length (decimal n) ≡ 1
one_digit n h = ap length (decimal_small n h)

pub room : (n : ℕ) → 10 ≤ n → length (decimal n) ≡ length (decimal (n / 10)) + 1
room n h = ap length (decimal_more n h) ∙ length-append (decimal (n / 10)) _

pub first_digit : (o : List ℕ) (at n : ℕ) → n < 10 → Wrote o at (decimal n) (set o at (48 + n)) (at + 1)
first_digit o at n h = rw (decimal_small n h) (byte_wrote o at (48 + n))

pub last_digit : (o : List ℕ) (at n : ℕ) (o₁ : List ℕ) (p : ℕ) → 10 ≤ n → Wrote o at (decimal (n / 10)) o₁ p → Wrote o at (decimal n) (set o₁ p (48 + n % 10)) (p + 1)
last_digit o at n o₁ p h w =
    rw (decimal_more n h)
    (chain o at (decimal (n / 10)) o₁ p ((48 + n % 10) ∷ []) (set o₁ p (48 + n % 10)) (p + 1) w (byte_wrote o₁ p (48 + n % 10)))
