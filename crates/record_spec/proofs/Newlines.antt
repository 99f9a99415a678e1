-- A text is its lines: a line that an operation has holds no newline, so it is cut out of the text again, and lines joined are the text.
-- Assumes nothing.
use Prim.Native.Nat.{ℕ, zero, suc, ◌+◌, ◌/◌, ◌%◌, ◌≤◌, ◌<◌}
use native.Mathlib.Omega.{arith}
use native.Mathlib.Decide.{dec_lt, ℕ_discrete}
use mathlib.Core.Path.{◌≡◌, refl, sym, ◌∙◌, ap, subst}
use mathlib.Core.List.{List, [], ◌∷◌, ◌++◌, map}
use lib.IntN.{ℤ, pos, negsuc}
use Rattle.text_decimals.proofs.Digits.{decimal_small, decimal_more}
use Rattle.ledger_spec.specs.Bench.{rate}
use Rattle.ledger_spec.specs.Decimals.{decimal, signed}
use Rattle.ledger_spec.specs.Fields.{upto, parts_after, cut}
use Rattle.ledger_spec.specs.Operations.{D, B, E, S, G, F, C, K}
use Rattle.ledger_spec.specs.Grammar.{Fields}
use Rattle.text_fields.proofs.Cuts.{upto_none, upto_here, upto_on, after_none, after_here, after_on}
use Rattle.text_lines.specs.Texts.{spaced, letter_of, fields_of}
use Rattle.record_spec.specs.Operations.{Op, serial_of, line_said, line_of_op}

-- ---- no newline

abbrev pub Free : List ℕ → Type 0
Free [] = Unit {0}
Free (c ∷ f) = (c ≡ 10 → ⊥) × Free f

abbrev AllFree : Fields → Type 0
AllFree [] = Unit {0}
AllFree (f ∷ fs) = Free f × AllFree fs

free_append : (a b : List ℕ) → Free a → Free b → Free (a ++ b)
free_append [] b p q = q
free_append (c ∷ a) b p q = (p.0, free_append a b p.1 q)

digit_free : (n : ℕ) → Free ((48 + n) ∷ [])
digit_free n = (λ h. omega arith, tt)

free_digits : (k n : ℕ) → n ≤ k → Free (decimal n)
free_digits zero n h = subst Free (sym (decimal_small n (omega arith))) (digit_free n)
free_digits (suc k) n h = go (dec_lt n 10) (free_digits k (n / 10))
  where
    go : Dec (n < 10) → (n / 10 ≤ k → Free (decimal (n / 10))) → Free (decimal n)
    go (yes l) i = subst Free (sym (decimal_small n l)) (digit_free n)
    go (no l) i = subst Free (sym (decimal_more n (omega arith))) (free_append (decimal (n / 10)) ((48 + n % 10) ∷ []) (i (omega arith)) (digit_free (n % 10)))

number_free : (n : ℕ) → Free (decimal n)
number_free n = free_digits n n (omega arith)

signed_free : (z : ℤ) → Free (signed z)
unfolding signed
signed_free (pos n) = number_free n
signed_free (negsuc n) = (λ h. omega arith, number_free (suc n))

numbers_free : (ns : List ℕ) → AllFree (map decimal ns)
numbers_free [] = tt
numbers_free (n ∷ ns) = (number_free n, numbers_free ns)

spaced_free : (f : List ℕ) (fs : Fields) → Free f → AllFree fs → Free (spaced f fs)
unfolding spaced
spaced_free f [] p q = p
spaced_free f (g ∷ fs) p q = free_append f (32 ∷ spaced g fs) p (λ h. omega arith, spaced_free g fs q.0 q.1)

letter_free : (op : Op) → Free (letter_of (line_said op))
unfolding letter_of
letter_free (D u v) = (λ h. omega arith, tt)
letter_free (B u ms) = (λ h. omega arith, tt)
letter_free (E u k) = (λ h. omega arith, tt)
letter_free (S u k g) = (λ h. omega arith, tt)
letter_free (G u l) = (λ h. omega arith, tt)
letter_free (F p l r) = (λ h. omega arith, tt)
letter_free (C u) = (λ h. omega arith, tt)
letter_free (K u) = (λ h. omega arith, tt)

fields_free : (op : Op) → AllFree (fields_of (line_said op))
unfolding fields_of
fields_free (D u v) = (number_free u, (number_free v, tt))
fields_free (B u ms) = (number_free u, numbers_free (map serial_of ms))
fields_free (E u k) = (number_free u, (number_free k, tt))
fields_free (S u k g) = (number_free u, (number_free k, (signed_free (rate g), tt)))
fields_free (G u l) = (number_free u, (signed_free l, tt))
fields_free (F p l r) = (number_free p, (number_free l, (number_free r, tt)))
fields_free (C u) = (number_free u, tt)
fields_free (K u) = (number_free u, tt)

pub line_free : (op : Op) → Free (line_of_op op)
line_free op = spaced_free (letter_of (line_said op)) (fields_of (line_said op)) (letter_free op) (fields_free op)

-- ---- joined and cut

upto_line : (f t : List ℕ) → Free f → upto 10 (f ++ (10 ∷ t)) ≡ f
upto_line [] t p = upto_here 10 10 t refl
upto_line (c ∷ f) t p = upto_on 10 c (f ++ (10 ∷ t)) p.0 ∙ ap (λ (l : List ℕ). c ∷ l) (upto_line f t p.1)

after_line : (f t : List ℕ) → Free f → parts_after 10 (f ++ (10 ∷ t)) ≡ cut 10 t
after_line [] t p = after_here 10 10 t refl
after_line (c ∷ f) t p = after_on 10 c (f ++ (10 ∷ t)) p.0 ∙ after_line f t p.1

pub cut_line : (f t : List ℕ) → Free f → cut 10 (f ++ (10 ∷ t)) ≡ f ∷ cut 10 t
cut_line f t p = λ i. upto_line f t p i ∷ after_line f t p i

pub cut_none : cut 10 [] ≡ [] ∷ []
cut_none = λ i. upto_none 10 i ∷ after_none 10 i

-- ---- cut and joined

unfoldable pub joined : List ℕ → Fields → List ℕ
joined f [] = f
joined f (g ∷ fs) = f ++ (10 ∷ joined g fs)

joined_cons : (c : ℕ) (f : List ℕ) (fs : Fields) → joined (c ∷ f) fs ≡ c ∷ joined f fs
unfolding joined
joined_cons c f [] = refl
joined_cons c f (g ∷ fs) = refl

joined_first : (f : List ℕ) (fs : Fields) → joined [] (f ∷ fs) ≡ 10 ∷ joined f fs
unfolding joined
joined_first f fs = refl

joined_none : joined [] [] ≡ []
unfolding joined
joined_none = refl

pub joined_cut : (s : List ℕ) → joined (upto 10 s) (parts_after 10 s) ≡ s
joined_cut [] = (λ i. joined (upto_none 10 i) (after_none 10 i)) ∙ joined_none
joined_cut (c ∷ s) = go (ℕ_discrete c 10) (joined_cut s)
  where
    go : Dec (c ≡ 10) → joined (upto 10 s) (parts_after 10 s) ≡ s → joined (upto 10 (c ∷ s)) (parts_after 10 (c ∷ s)) ≡ c ∷ s
    go (yes p) i = (λ j. joined (upto_here 10 c s p j) (after_here 10 c s p j)) ∙ joined_first (upto 10 s) (parts_after 10 s) ∙ (λ j. sym p j ∷ i j)
    go (no p) i = (λ j. joined (upto_on 10 c s p j) (after_on 10 c s p j)) ∙ joined_cons c (upto 10 s) (parts_after 10 s) ∙ ap (λ (l : List ℕ). c ∷ l) i
