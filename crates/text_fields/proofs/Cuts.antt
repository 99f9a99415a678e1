-- What cutting at a byte does at each byte of a line. Assumes nothing.
use Prim.Native.Nat.{ℕ}
use mathlib.Core.Path.{◌≡◌, refl}
use mathlib.Core.List.{List, [], ◌∷◌}
use borrow.Author.Tests.{eq-eqb, ne_eqb}
use Rattle.ledger_spec.specs.Fields.{upto, parts_after, cut}

pub upto_none : (p : ℕ) → upto p [] ≡ []
unfolding upto
upto_none p = refl

pub upto_here : (p c : ℕ) (s : List ℕ) → c ≡ p → upto p (c ∷ s) ≡ []
unfolding upto
upto_here p c s e = rw (eq-eqb c p e, upto)

pub upto_on : (p c : ℕ) (s : List ℕ) → (c ≡ p → ⊥) → upto p (c ∷ s) ≡ c ∷ upto p s
unfolding upto
upto_on p c s e = rw (ne_eqb c p e, upto)

pub after_none : (p : ℕ) → parts_after p [] ≡ []
unfolding parts_after
after_none p = refl

pub after_here : (p c : ℕ) (s : List ℕ) → c ≡ p → parts_after p (c ∷ s) ≡ cut p s
unfolding parts_after
after_here p c s e = rw (eq-eqb c p e, parts_after)

pub after_on : (p c : ℕ) (s : List ℕ) → (c ≡ p → ⊥) → parts_after p (c ∷ s) ≡ parts_after p s
unfolding parts_after
after_on p c s e = rw (ne_eqb c p e, parts_after)
