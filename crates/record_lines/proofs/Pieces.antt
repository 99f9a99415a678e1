-- A line's fields, one after the other. Assumes nothing.
use Prim.Native.Nat.{ℕ, ◌+◌, ◌*◌}
use native.Mathlib.Omega.{arith}
use mathlib.Core.Path.{◌≡◌, sym, ◌∙◌, ap, subst}
use mathlib.Core.List.{List, [], ◌∷◌, ◌++◌, append-nil}
use lib.ListN.{set}
use borrow.Author.Tests.{ne_eqb}
use Rattle.ledger_spec.specs.Decimals.{decimal, digits, signed}
use Rattle.text_decimals.specs.Wrote.{Wrote}
use Rattle.text_decimals.proofs.Writes.{after_byte}
use Rattle.record_spec.specs.Numbers.{length_in}
use Rattle.record_spec.specs.Places.{at}
use Rattle.record_lines.specs.Lines.{tail, state_text, serial_fields, fields_at, bytes_at}

pub two_bytes : (o : List ℕ) (from c d : ℕ) (b o₂ : List ℕ) (q : ℕ) → Wrote (set (set o from c) (from + 1) d) (from + 2) b o₂ q → Wrote o from (c ∷ d ∷ b) o₂ q
two_bytes o from c d b o₂ q w =
    let e : from + 2 ≡ from + 1 + 1 = omega arith in
    after_byte o from c (d ∷ b) o₂ q (after_byte (set o from c) (from + 1) d b o₂ q (subst (λ (k : ℕ). Wrote (set (set o from c) (from + 1) d) k b o₂ q) e w))

-- ---- one field, and two

pub tail_one : (f : List ℕ) → tail (f ∷ []) ≡ 32 ∷ f
unfolding tail
tail_one f = append-nil (32 ∷ f)

pub tail_two : (f g : List ℕ) → tail (f ∷ g ∷ []) ≡ (32 ∷ f) ++ (32 ∷ g)
unfolding tail
tail_two f g = ap (λ (l : List ℕ). (32 ∷ f) ++ l) (append-nil (32 ∷ g))

-- ---- a state

pub state_minus : (n : ℕ) → n ≡ 255 → state_text n ≡ 45 ∷ decimal 1
unfolding state_text decimal digits
state_minus n e = ap state_text e

pub state_plain : (n : ℕ) → (n ≡ 255 → ⊥) → state_text n ≡ decimal n
unfolding state_text
state_plain n h = rw (ne_eqb n 255 h, state_text)

-- ---- what stands after the unit, by the letter

module _ (l : ℕ) (t : List ℕ) (q : ℕ) where
  pub fields-D : l ≡ 68 → (fields_at l t q ≡ decimal (at 4 t q) ∷ []) × (bytes_at l t q ≡ 4)
  unfolding fields_at bytes_at
  fields-D e = (ap (λ (x : ℕ). fields_at x t q) e, ap (λ (x : ℕ). bytes_at x t q) e)

  pub fields-B : l ≡ 66 → (fields_at l t q ≡ serial_fields (at 2 t q) t (q + 2)) × (bytes_at l t q ≡ 2 + 12 * at 2 t q)
  unfolding fields_at bytes_at
  fields-B e = (ap (λ (x : ℕ). fields_at x t q) e, ap (λ (x : ℕ). bytes_at x t q) e)

  pub fields-E : l ≡ 69 → (fields_at l t q ≡ decimal (at 4 t q) ∷ []) × (bytes_at l t q ≡ 4)
  unfolding fields_at bytes_at
  fields-E e = (ap (λ (x : ℕ). fields_at x t q) e, ap (λ (x : ℕ). bytes_at x t q) e)

  pub fields-S : l ≡ 83 → (fields_at l t q ≡ decimal (at 4 t q) ∷ state_text (at 1 t (q + 4)) ∷ []) × (bytes_at l t q ≡ 5)
  unfolding fields_at bytes_at
  fields-S e = (ap (λ (x : ℕ). fields_at x t q) e, ap (λ (x : ℕ). bytes_at x t q) e)

  pub fields-G : l ≡ 71 → (fields_at l t q ≡ signed (length_in (at 8 t q)) ∷ []) × (bytes_at l t q ≡ 8)
  unfolding fields_at bytes_at
  fields-G e = (ap (λ (x : ℕ). fields_at x t q) e, ap (λ (x : ℕ). bytes_at x t q) e)

  pub fields-F : l ≡ 70 → (fields_at l t q ≡ decimal (at 1 t q) ∷ decimal (at 1 t (q + 1)) ∷ []) × (bytes_at l t q ≡ 2)
  unfolding fields_at bytes_at
  fields-F e = (ap (λ (x : ℕ). fields_at x t q) e, ap (λ (x : ℕ). bytes_at x t q) e)

  pub fields_none : (l ≡ 68 → ⊥) → (l ≡ 66 → ⊥) → (l ≡ 69 → ⊥) → (l ≡ 83 → ⊥) → (l ≡ 71 → ⊥) → (l ≡ 70 → ⊥) → (fields_at l t q ≡ []) × (bytes_at l t q ≡ 0)
  unfolding fields_at bytes_at
  fields_none a b c d e f = (
    rw (ne_eqb l 68 a, ne_eqb l 66 b, ne_eqb l 69 c, ne_eqb l 83 d, ne_eqb l 71 e, ne_eqb l 70 f),
    rw (ne_eqb l 68 a, ne_eqb l 66 b, ne_eqb l 69 c, ne_eqb l 83 d, ne_eqb l 71 e, ne_eqb l 70 f),
  )

-- ---- the text of each, from the numbers that were read

module _ (l : ℕ) (t : List ℕ) (q : ℕ) where
  pub text-D : l ≡ 68 → 32 ∷ decimal (at 4 t q) ≡ tail (fields_at l t q)
  text-D e = sym (ap tail (fields-D l t q e).0 ∙ tail_one (decimal (at 4 t q)))

  pub text-E : l ≡ 69 → 32 ∷ decimal (at 4 t q) ≡ tail (fields_at l t q)
  text-E e = sym (ap tail (fields-E l t q e).0 ∙ tail_one (decimal (at 4 t q)))

  pub text-B : l ≡ 66 → (n : ℕ) → n ≡ at 2 t q → tail (serial_fields n t (q + 2)) ≡ tail (fields_at l t q)
  text-B e n f = ap (λ (k : ℕ). tail (serial_fields k t (q + 2))) f ∙ sym (ap tail (fields-B l t q e).0)

  pub text-S : l ≡ 83 → (n g : ℕ) → n ≡ at 4 t q → g ≡ at 1 t (q + 4) → tail (decimal n ∷ state_text g ∷ []) ≡ tail (fields_at l t q)
  text-S e n g f h = (λ i. tail (decimal (f i) ∷ state_text (h i) ∷ [])) ∙ sym (ap tail (fields-S l t q e).0)

  pub text-G : l ≡ 71 → (n : ℕ) → n ≡ at 8 t q → 32 ∷ signed (length_in n) ≡ tail (fields_at l t q)
  text-G e n f = ap (λ (k : ℕ). 32 ∷ signed (length_in k)) f ∙ sym (ap tail (fields-G l t q e).0 ∙ tail_one (signed (length_in (at 8 t q))))

  pub text-F : l ≡ 70 → (m n : ℕ) → m ≡ at 1 t q → n ≡ at 1 t (q + 1) → tail (decimal m ∷ decimal n ∷ []) ≡ tail (fields_at l t q)
  text-F e m n f h = (λ i. tail (decimal (f i) ∷ decimal (h i) ∷ [])) ∙ sym (ap tail (fields-F l t q e).0)
