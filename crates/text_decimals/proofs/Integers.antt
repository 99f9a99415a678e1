-- What a signed field says, from what the function that read its digits answered. Assumes nothing.
use Rattle.std.specs.Prelude.{None, Option, Some}
use Prim.Native.Nat.{ℕ, ◌-◌, ◌≤◌}
use native.Mathlib.Omega.{arith}
use mathlib.Core.Path.{◌≡◌, sym, ◌∙◌, ap}
use mathlib.Core.List.{List}
use lib.ListN.{length, get_or, drop, take}
use lib.IntN.{ℤ, pos, neg_ℤ}
use mir.Syntax.{w64}
use mir.Val.{to_z, of_z}
use mir.Facts.{to_z-of_z}
use Rattle.ledger_spec.specs.Decimals.{natural, number_within, integer, plus_of, minus_of}
use Rattle.text_decimals.specs.Read.{number_of}
use Rattle.text_decimals.proofs.Values.{between_said}
use Rattle.text_decimals.proofs.Fields.{integer_minus, integer_plus, rest_of}
use Rattle.text_decimals.proofs.Signs.{fits_plus, fits_minus}

-- a number that was read lies in its range
pub number_range : (l m : ℕ) (f : List ℕ) (r : Option ℕ) (n : ℕ) → number_of r ≡ number_within l m f → r ≡ Some n → (l ≤ n) × (n ≤ m)
number_range l m f r n e h = let w = between_said l m n (natural f) (sym e ∙ ap number_of h) in (w.1, w.2)

module _ (f : List ℕ) (some_byte : length f ≡ 0 → ⊥) (r : Option ℕ) where
  module _ (sign : get_or f 0 0 ≡ 45) (read : number_of r ≡ number_within 1 9223372036854775808 (take (length f - 1) (drop 1 f))) where
    says : integer f ≡ minus_of (number_of r)
    says = integer_minus f some_byte sign ∙ ap (λ (t : List ℕ). minus_of (number_within 1 9223372036854775808 t)) (sym (rest_of f)) ∙ ap minus_of (sym read)

    pub minus_said : (n : ℕ) → r ≡ Some n → (z : ℤ) → z ≡ neg_ℤ (pos n) → Some (to_z w64 (of_z w64 z)) ≡ integer f
    minus_said n h z e =
        let b = number_range 1 9223372036854775808 _ r n read h in
        rw e (ap Some (to_z-of_z (fits_minus n b))) ∙ sym (says ∙ ap (λ (x : Option ℕ). minus_of (number_of x)) h)

    pub minus_none : r ≡ None → None ≡ integer f
    minus_none h = sym (says ∙ ap (λ (x : Option ℕ). minus_of (number_of x)) h)

  module _ (no_sign : get_or f 0 0 ≡ 45 → ⊥) (read : number_of r ≡ number_within 0 9223372036854775807 f) where
    says_plus : integer f ≡ plus_of (number_of r)
    says_plus = integer_plus f some_byte no_sign ∙ ap plus_of (sym read)

    pub plus_said : (n : ℕ) → r ≡ Some n → (z : ℤ) → z ≡ pos n → Some (to_z w64 (of_z w64 z)) ≡ integer f
    plus_said n h z e =
        let b = number_range 0 9223372036854775807 f r n read h in
        rw e (ap Some (to_z-of_z (fits_plus n (omega (arith, b.1))))) ∙ sym (says_plus ∙ ap (λ (x : Option ℕ). plus_of (number_of x)) h)

    pub plus_none : r ≡ None → None ≡ integer f
    plus_none h = sym (says_plus ∙ ap (λ (x : Option ℕ). plus_of (number_of x)) h)
