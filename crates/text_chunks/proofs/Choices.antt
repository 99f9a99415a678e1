-- A line that chooses an engine has three bytes, and which they are. Assumes nothing.
use Rattle.std.specs.Prelude.{None, Option, Some}
use Prim.Native.Nat.{ℕ}
use native.Mathlib.Omega.{arith}
use mathlib.Core.Bool.{Bool, true, false, ◌&&◌}
use mathlib.Core.Path.{◌≡◌, refl, sym, ◌∙◌, ap}
use mathlib.Core.List.{List, [], ◌∷◌}
use lib.Dec.{eqb}
use lib.ListN.{length, get_or}
use borrow.Author.Tests.{eq-eqb, ne_eqb}
use Rattle.ledger_spec.specs.Opening.{chosen}

-- another number of bytes
pub not_three : (l : List ℕ) → (length l ≡ 3 → ⊥) → None ≡ chosen l
unfolding chosen
not_three [] h = refl
not_three (m ∷ []) h = refl
not_three (m ∷ s ∷ []) h = refl
not_three (m ∷ s ∷ d ∷ []) h = absurd (h refl)
not_three (m ∷ s ∷ d ∷ e ∷ l) h = refl

three : (l : List ℕ) → length l ≡ 3 → l ≡ get_or l 0 0 ∷ get_or l 1 0 ∷ get_or l 2 0 ∷ []
three [] h = absurd (omega arith)
three (m ∷ []) h = absurd (omega arith)
three (m ∷ s ∷ []) h = absurd (omega arith)
three (m ∷ s ∷ d ∷ []) h = refl
three (m ∷ s ∷ d ∷ e ∷ l) h = absurd (omega arith)

-- ---- three bytes, by the tests on them: M, a space, 1, 0

abbrev tested : Bool → Bool → Bool → Bool → Option Bool
tested a b x y = elim (a && b) [ true ↦ elim x [ true ↦ Some true | false ↦ elim y [ true ↦ Some false | false ↦ None ] ] | false ↦ None ]

by_tests : (m s d : ℕ) → tested (eqb m 77) (eqb s 32) (eqb d 49) (eqb d 48) ≡ chosen (m ∷ s ∷ d ∷ [])
unfolding chosen
by_tests m s d = refl

no_letter : (m s d : ℕ) → (m ≡ 77 → ⊥) → None ≡ chosen (m ∷ s ∷ d ∷ [])
no_letter m s d h = (λ i. tested (sym (ne_eqb m 77 h) i) (eqb s 32) (eqb d 49) (eqb d 48)) ∙ by_tests m s d

no_space : (m s d : ℕ) → m ≡ 77 → (s ≡ 32 → ⊥) → None ≡ chosen (m ∷ s ∷ d ∷ [])
no_space m s d e h = (λ i. tested (sym (eq-eqb m 77 e) i) (sym (ne_eqb s 32 h) i) (eqb d 49) (eqb d 48)) ∙ by_tests m s d

one : (m s d : ℕ) → m ≡ 77 → s ≡ 32 → d ≡ 49 → Some true ≡ chosen (m ∷ s ∷ d ∷ [])
one m s d e f g = (λ i. tested (sym (eq-eqb m 77 e) i) (sym (eq-eqb s 32 f) i) (sym (eq-eqb d 49 g) i) (eqb d 48)) ∙ by_tests m s d

nought : (m s d : ℕ) → m ≡ 77 → s ≡ 32 → (d ≡ 49 → ⊥) → d ≡ 48 → Some false ≡ chosen (m ∷ s ∷ d ∷ [])
nought m s d e f h g = (λ i. tested (sym (eq-eqb m 77 e) i) (sym (eq-eqb s 32 f) i) (sym (ne_eqb d 49 h) i) (sym (eq-eqb d 48 g) i)) ∙ by_tests m s d

no_digit : (m s d : ℕ) → m ≡ 77 → s ≡ 32 → (d ≡ 49 → ⊥) → (d ≡ 48 → ⊥) → None ≡ chosen (m ∷ s ∷ d ∷ [])
no_digit m s d e f h g = (λ i. tested (sym (eq-eqb m 77 e) i) (sym (eq-eqb s 32 f) i) (sym (ne_eqb d 49 h) i) (sym (ne_eqb d 48 g) i)) ∙ by_tests m s d

-- ---- a line of three bytes

module _ (l : List ℕ) (h : length l ≡ 3) where
  by_bytes : (x : Option Bool) → x ≡ chosen (get_or l 0 0 ∷ get_or l 1 0 ∷ get_or l 2 0 ∷ []) → x ≡ chosen l
  by_bytes x e = e ∙ ap chosen (sym (three l h))

  pub chosen_letter : (get_or l 0 0 ≡ 77 → ⊥) → None ≡ chosen l
  chosen_letter a = by_bytes None (no_letter _ _ _ a)

  pub chosen_space : get_or l 0 0 ≡ 77 → (get_or l 1 0 ≡ 32 → ⊥) → None ≡ chosen l
  chosen_space a b = by_bytes None (no_space _ _ _ a b)

  pub chosen_plain : get_or l 0 0 ≡ 77 → get_or l 1 0 ≡ 32 → get_or l 2 0 ≡ 49 → Some true ≡ chosen l
  chosen_plain a b c = by_bytes (Some true) (one _ _ _ a b c)

  pub chosen_lazy : get_or l 0 0 ≡ 77 → get_or l 1 0 ≡ 32 → (get_or l 2 0 ≡ 49 → ⊥) → get_or l 2 0 ≡ 48 → Some false ≡ chosen l
  chosen_lazy a b c d = by_bytes (Some false) (nought _ _ _ a b c d)

  pub chosen_digit : get_or l 0 0 ≡ 77 → get_or l 1 0 ≡ 32 → (get_or l 2 0 ≡ 49 → ⊥) → (get_or l 2 0 ≡ 48 → ⊥) → None ≡ chosen l
  chosen_digit a b c d = by_bytes None (no_digit _ _ _ a b c d)
