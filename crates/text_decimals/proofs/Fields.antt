-- What a field says as a number, and as a signed number, by its length and its first byte. Assumes nothing.
use Rattle.std.specs.Prelude.{None}
use Prim.Native.Nat.{ℕ, ◌-◌}
use native.Mathlib.Omega.{arith}
use mathlib.Core.Path.{◌≡◌, refl}
use mathlib.Core.List.{List, [], ◌∷◌}
use lib.ListN.{length, get_or, drop, take, length-drop}
use lib.Seq.{take_all}
use borrow.Author.Tests.{eq-eqb, ne_eqb}
use Rattle.ledger_spec.specs.Decimals.{after_digits, natural, number_within, integer, plus_of, minus_of}

pub natural_empty : (f : List ℕ) → length f ≡ 0 → natural f ≡ None
unfolding natural
natural_empty [] h = refl
natural_empty (c ∷ f) h = absurd (omega arith)

pub natural_one : (f : List ℕ) → length f ≡ 1 → natural f ≡ after_digits 0 f
unfolding natural
natural_one [] h = absurd (omega arith)
natural_one (c ∷ []) h = refl
natural_one (c ∷ d ∷ f) h = absurd (omega arith)

pub natural_zero : (f : List ℕ) → (length f ≡ 0 → ⊥) → (length f ≡ 1 → ⊥) → get_or f 0 0 ≡ 48 → natural f ≡ None
unfolding natural
natural_zero [] h k e = absurd (h refl)
natural_zero (c ∷ []) h k e = absurd (k refl)
natural_zero (c ∷ d ∷ f) h k e = rw (eq-eqb c 48 e, natural)

pub natural_more : (f : List ℕ) → (length f ≡ 0 → ⊥) → (length f ≡ 1 → ⊥) → (get_or f 0 0 ≡ 48 → ⊥) → natural f ≡ after_digits 0 f
unfolding natural
natural_more [] h k e = absurd (h refl)
natural_more (c ∷ []) h k e = absurd (k refl)
natural_more (c ∷ d ∷ f) h k e = rw (ne_eqb c 48 e, natural)

pub integer_empty : (f : List ℕ) → length f ≡ 0 → integer f ≡ None
unfolding integer
integer_empty [] h = refl
integer_empty (c ∷ f) h = absurd (omega arith)

pub integer_minus : (f : List ℕ) → (length f ≡ 0 → ⊥) → get_or f 0 0 ≡ 45 → integer f ≡ minus_of (number_within 1 9223372036854775808 (drop 1 f))
unfolding integer
integer_minus [] h e = absurd (h refl)
integer_minus (c ∷ f) h e = rw (eq-eqb c 45 e, integer)

pub integer_plus : (f : List ℕ) → (length f ≡ 0 → ⊥) → (get_or f 0 0 ≡ 45 → ⊥) → integer f ≡ plus_of (number_within 0 9223372036854775807 f)
unfolding integer
integer_plus [] h e = absurd (h refl)
integer_plus (c ∷ f) h e = rw (ne_eqb c 45 e, integer)

-- the part that `&f[1..]` is
pub rest_of : (f : List ℕ) → take (length f - 1) (drop 1 f) ≡ drop 1 f
rest_of f = take_all (length f - 1) (drop 1 f) (simp length-drop (omega arith))
