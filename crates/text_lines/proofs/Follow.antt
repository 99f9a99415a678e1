-- What a line says after one more field was read, or was not there. Assumes nothing.
use Rattle.std.specs.Prelude.{None, Option, Some}
use Prim.Native.Nat.{ℕ, ◌≤◌, ◌<◌}
use mathlib.Core.Path.{◌≡◌, refl, sym, ◌∙◌, ap, subst}
use mathlib.Core.List.{List}
use lib.ListN.{length}
use lib.IntN.{ℤ}
use Rattle.kinds.specs.declared.GrowState.{GrowState}
use Rattle.kinds.specs.declared.GrowState.TheVariants.{Grow, Stay, Shrink}
use Rattle.ledger_spec.specs.Bench.{State}
use Rattle.ledger_spec.specs.Named.{state_named}
use Rattle.ledger_spec.specs.Decimals.{number_within}
use Rattle.ledger_spec.specs.Grammar.{Line as Said, wrong, Fields, an_amount, a_state, step, follow, then, no_more}
use Rattle.text_fields.specs.Places.{from, Further, NumberIs, next_of, length_of, state_of}
use Rattle.text_fields.proofs.Ends.{from_more, from_none}
use Rattle.text_lines.specs.Shown.{state_shown}

-- ---- a number

module _ (s : List ℕ) (p least most : ℕ) (r : Option (ℕ × ℕ)) (is : NumberIs s p least most r) where
  module _ (v e : ℕ) (h : r ≡ Some (v, e)) where
    pub got : (k : ℕ → Fields → Said) → then (number_within least most) k (from s p) ≡ k v (from s e)
    got k = ap (λ (o : Option (ℕ × Fields)). follow o k) (sym is.read ∙ ap (next_of s) h)

    pub got_further : (p < e) × (e ≤ length s) × (v ≤ most)
    got_further = subst (λ (n : Option (ℕ × ℕ)). Further s p most n) h is.further

  pub missed : (k : ℕ → Fields → Said) → r ≡ None → then (number_within least most) k (from s p) ≡ wrong
  missed k h = ap (λ (o : Option (ℕ × Fields)). follow o k) (sym is.read ∙ ap (next_of s) h)

-- ---- a length

module _ (s : List ℕ) (p : ℕ) (r : Option (ℤ × ℕ)) (is : length_of s r ≡ step an_amount (from s p)) (k : ℤ → Fields → Said) where
  pub length_got : (v : ℤ) (e : ℕ) → r ≡ Some (v, e) → then an_amount k (from s p) ≡ k v (from s e)
  length_got v e h = ap (λ (o : Option (ℤ × Fields)). follow o k) (sym is ∙ ap (length_of s) h)

  pub length_missed : r ≡ None → then an_amount k (from s p) ≡ wrong
  length_missed h = ap (λ (o : Option (ℤ × Fields)). follow o k) (sym is ∙ ap (length_of s) h)

-- ---- a state

module _ (s : List ℕ) (p : ℕ) (r : Option (GrowState × ℕ)) (is : state_of s r ≡ step a_state (from s p)) (k : State → Fields → Said) where
  pub state_got : (g : GrowState) (e : ℕ) → r ≡ Some (g, e) → then a_state k (from s p) ≡ k (state_named g) (from s e)
  state_got g e h = ap (λ (o : Option (State × Fields)). follow o k) (sym is ∙ ap (state_of s) h)

  pub state_missed : r ≡ None → then a_state k (from s p) ≡ wrong
  state_missed h = ap (λ (o : Option (State × Fields)). follow o k) (sym is ∙ ap (state_of s) h)

-- ---- the line's end

pub ended : (s : List ℕ) (e : ℕ) (l : Said) → length s ≤ e → no_more l (from s e) ≡ l
ended s e l h = ap (no_more l) (from_none 32 s e h)

pub goes_on : (s : List ℕ) (e : ℕ) (l : Said) → e < length s → no_more l (from s e) ≡ wrong
goes_on s e l h = ap (no_more l) (from_more 32 s e h)

-- ---- a state shown as the code's is the code's

pub state_same : (g : GrowState) → state_shown (state_named g) ≡ g
state_same Grow = refl
state_same Stay = refl
state_same Shrink = refl
