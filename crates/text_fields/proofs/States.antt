-- A state is a signed number that is 1, 0 or -1: one step of the grammar from the other. Assumes nothing.
use Rattle.std.specs.Prelude.{None, Option, Some}
use Rattle.kinds.specs.declared.GrowState.{GrowState}
use Prim.Native.Nat.{ℕ, zero, suc}
use mathlib.Core.Path.{◌≡◌, refl, sym, ◌∙◌, ap}
use mathlib.Core.List.{List, [], ◌∷◌}
use lib.IntN.{ℤ, pos, negsuc}
use mir.Syntax.{w64}
use mir.Val.{SFits, to_z, of_z}
use mir.Facts.{to_z-of_z}
use Rattle.ledger_spec.specs.Bench.{State, grows, stays, shrinks}
use Rattle.ledger_spec.specs.Decimals.{integer}
use Rattle.ledger_spec.specs.Grammar.{Fields, an_amount, a_state, state_in, step}
use Rattle.text_fields.specs.Places.{from, length_of, state_of, to_state}
use Rattle.text_fields.proofs.Steps.{step_some, step_none, step_empty}

-- ---- the three numbers, told by their 64 bits

pub state_bits : (z : ℤ) (e n : ℕ) → SFits w64 z → of_z w64 z ≡ n → to_state e (state_in (Some (to_z w64 n))) ≡ to_state e (state_in (Some z))
state_bits z e n f h = ap (λ (x : ℤ). to_state e (state_in (Some x))) (sym (sym (to_z-of_z f) ∙ ap (to_z w64) h))

others : (z : ℤ) → (z ≡ pos 1 → ⊥) → (z ≡ pos 0 → ⊥) → (z ≡ negsuc 0 → ⊥) → state_in (Some z) ≡ None
others (pos zero) a b c = absurd (b refl)
others (pos (suc zero)) a b c = absurd (a refl)
others (pos (suc (suc n))) a b c = refl
others (negsuc zero) a b c = absurd (c refl)
others (negsuc (suc n)) a b c = refl

pub no_state : (z : ℤ) (e : ℕ) → (of_z w64 z ≡ 1 → ⊥) → (of_z w64 z ≡ 0 → ⊥) → (of_z w64 z ≡ 18446744073709551615 → ⊥) → None ≡ to_state e (state_in (Some z))
no_state z e a b c = sym (ap (to_state e) (others z (λ h. a (ap (of_z w64) h)) (λ h. b (ap (of_z w64) h)) (λ h. c (ap (of_z w64) h))))

-- ---- a step to a signed number, as a step to a state

abbrev onward : Option State → Fields → Option (State × Fields)
onward None fs = None
onward (Some g) fs = Some (g, fs)

abbrev turned : Option (ℤ × Fields) → Option (State × Fields)
turned None = None
turned (Some p) = onward (state_in (Some p.0)) p.1

steps : (fs : Fields) → step a_state fs ≡ turned (step an_amount fs)
steps [] = step_empty a_state ∙ ap turned (sym (step_empty an_amount))
steps (f ∷ fs) = go (integer f) refl
  where
    told : (o : Option State) → state_in (integer f) ≡ o → step a_state (f ∷ fs) ≡ onward o fs
    told None p = step_none a_state f fs p
    told (Some g) p = step_some a_state f fs g p

    go : (o : Option ℤ) → integer f ≡ o → step a_state (f ∷ fs) ≡ turned (step an_amount (f ∷ fs))
    go None p = told None (ap state_in p) ∙ ap turned (sym (step_none an_amount f fs p))
    go (Some z) p = told (state_in (Some z)) (ap state_in p) ∙ ap turned (sym (step_some an_amount f fs z p))

made : (s : List ℕ) (e : ℕ) (o : Option State) → state_of s (to_state e o) ≡ onward o (from s e)
made s e None = refl
made s e (Some grows) = refl
made s e (Some stays) = refl
made s e (Some shrinks) = refl

module _ (s : List ℕ) (fs : Fields) (n : Option (ℤ × ℕ)) (read : length_of s n ≡ step an_amount fs) where
  pub state_some : (z : ℤ) (e : ℕ) (r : Option (GrowState × ℕ)) → n ≡ Some (z, e) → r ≡ to_state e (state_in (Some z)) → state_of s r ≡ step a_state fs
  state_some z e r h k = ap (state_of s) k ∙ made s e (state_in (Some z)) ∙ ap (λ (x : Option (ℤ × ℕ)). turned (length_of s x)) (sym h) ∙ ap turned read ∙ sym (steps fs)

  pub state_none : n ≡ None → None ≡ step a_state fs
  state_none h = ap (λ (x : Option (ℤ × ℕ)). turned (length_of s x)) (sym h) ∙ ap turned read ∙ sym (steps fs)
