-- Fields without spaces in them, joined by single spaces, are cut into the same fields again; and a line is its fields joined. Assumes nothing.
use Prim.Native.Nat.{ℕ, zero, suc, ◌+◌, ◌/◌, ◌%◌, ◌≤◌, ◌<◌}
use native.Mathlib.Omega.{arith}
use native.Mathlib.Decide.{dec_lt, ℕ_discrete}
use mathlib.Core.Path.{◌≡◌, refl, sym, ◌∙◌, ap, subst}
use mathlib.Core.List.{List, [], ◌∷◌, ◌++◌}
use lib.IntN.{ℤ, pos, negsuc}
use Rattle.text_decimals.proofs.Digits.{decimal_small, decimal_more}
use Rattle.ledger_spec.specs.Decimals.{decimal, signed}
use Rattle.ledger_spec.specs.Fields.{upto, parts_after, cut}
use Rattle.ledger_spec.specs.Grammar.{Fields}
use Rattle.text_fields.proofs.Cuts.{upto_none, upto_here, upto_on, after_none, after_here, after_on}
use Rattle.text_lines.specs.Texts.{spaced}

-- ---- no space

abbrev pub Free : List ℕ → Type 0
Free [] = Unit {0}
Free (c ∷ f) = (c ≡ 32 → ⊥) × Free f

abbrev pub AllFree : Fields → Type 0
AllFree [] = Unit {0}
AllFree (f ∷ fs) = Free f × AllFree fs

free_append : (a b : List ℕ) → Free a → Free b → Free (a ++ b)
free_append [] b p q = q
free_append (c ∷ a) b p q = (p.0, free_append a b p.1 q)

digit_free : (n : ℕ) → Free ((48 + n) ∷ [])
digit_free n = (λ h. omega arith, tt)

free_digits : (k n : ℕ) → n ≤ k → Free (decimal n)
free_digits zero n h = subst Free (sym (decimal_small n (omega arith))) (digit_free n)
free_digits (suc k) n h = go (dec_lt n 10) (free_digits k (n / 10))
  where
    go : Dec (n < 10) → (n / 10 ≤ k → Free (decimal (n / 10))) → Free (decimal n)
    go (yes l) i = subst Free (sym (decimal_small n l)) (digit_free n)
    go (no l) i = subst Free (sym (decimal_more n (omega arith))) (free_append (decimal (n / 10)) ((48 + n % 10) ∷ []) (i (omega arith)) (digit_free (n % 10)))

pub free_decimal : (n : ℕ) → Free (decimal n)
free_decimal n = free_digits n n (omega arith)

pub free_signed : (z : ℤ) → Free (signed z)
unfolding signed
free_signed (pos n) = free_decimal n
free_signed (negsuc n) = (λ h. omega arith, free_decimal (suc n))

-- ---- joined and cut

upto_end : (f : List ℕ) → Free f → upto 32 f ≡ f
upto_end [] p = upto_none 32
upto_end (c ∷ f) p = upto_on 32 c f p.0 ∙ ap (λ (l : List ℕ). c ∷ l) (upto_end f p.1)

upto_space : (f t : List ℕ) → Free f → upto 32 (f ++ (32 ∷ t)) ≡ f
upto_space [] t p = upto_here 32 32 t refl
upto_space (c ∷ f) t p = upto_on 32 c (f ++ (32 ∷ t)) p.0 ∙ ap (λ (l : List ℕ). c ∷ l) (upto_space f t p.1)

after_end : (f : List ℕ) → Free f → parts_after 32 f ≡ []
after_end [] p = after_none 32
after_end (c ∷ f) p = after_on 32 c f p.0 ∙ after_end f p.1

after_space : (f t : List ℕ) → Free f → parts_after 32 (f ++ (32 ∷ t)) ≡ cut 32 t
after_space [] t p = after_here 32 32 t refl
after_space (c ∷ f) t p = after_on 32 c (f ++ (32 ∷ t)) p.0 ∙ after_space f t p.1

pub cut_spaced : (f : List ℕ) (fs : Fields) → Free f → AllFree fs → cut 32 (spaced f fs) ≡ f ∷ fs
unfolding spaced
cut_spaced f [] p q = λ i. upto_end f p i ∷ after_end f p i
cut_spaced f (g ∷ fs) p q =
    (λ i. upto_space f (spaced g fs) p i ∷ after_space f (spaced g fs) p i) ∙ ap (λ (l : Fields). f ∷ l) (cut_spaced g fs q.0 q.1)

-- ---- cut and joined

spaced_cons : (c : ℕ) (f : List ℕ) (fs : Fields) → spaced (c ∷ f) fs ≡ c ∷ spaced f fs
unfolding spaced
spaced_cons c f [] = refl
spaced_cons c f (g ∷ fs) = refl

spaced_first : (f : List ℕ) (fs : Fields) → spaced [] (f ∷ fs) ≡ 32 ∷ spaced f fs
unfolding spaced
spaced_first f fs = refl

spaced_none : spaced [] [] ≡ []
unfolding spaced
spaced_none = refl

pub spaced_cut : (s : List ℕ) → spaced (upto 32 s) (parts_after 32 s) ≡ s
spaced_cut [] = (λ i. spaced (upto_none 32 i) (after_none 32 i)) ∙ spaced_none
spaced_cut (c ∷ s) = go (ℕ_discrete c 32) (spaced_cut s)
  where
    go : Dec (c ≡ 32) → spaced (upto 32 s) (parts_after 32 s) ≡ s → spaced (upto 32 (c ∷ s)) (parts_after 32 (c ∷ s)) ≡ c ∷ s
    go (yes p) i = (λ j. spaced (upto_here 32 c s p j) (after_here 32 c s p j)) ∙ spaced_first (upto 32 s) (parts_after 32 s) ∙ (λ j. sym p j ∷ i j)
    go (no p) i = (λ j. spaced (upto_on 32 c s p j) (after_on 32 c s p j)) ∙ spaced_cons c (upto 32 s) (parts_after 32 s) ∙ ap (λ (l : List ℕ). c ∷ l) i
