-- Along the slots: what is left of their list comes after what is put. Assumes nothing.
use Rattle.std.specs.Prelude.{None, Option}
use Prim.Native.Nat.{ℕ, suc, ◌+◌, ◌<◌, ◌≤◌}
use mathlib.Core.Path.{ap, sym, subst}
use mathlib.Core.Bool.{Bool}
use mathlib.Core.List.{List, [], ◌∷◌, ◌++◌, map}
use native.Mathlib.Numerals.{add-one}
use native.Mathlib.Omega.{arith}
use lib.ListN.{drop, get_or, drop_of_length-le}
use lib.Seq.{drop-cons}
use Rattle.ledger_spec.specs.Bench.{Node}
use Rattle.ledger_spec.specs.Reads.{slots_of}
use Rattle.bench_views.specs.View.{view}
use Rattle.check_places.specs.Places.{Places}
use Rattle.picture_spec.specs.Sketch.{slot_seen_by}
use Rattle.picture_spec.specs.Text.{names_by, comma, items, array, slot_text}
use Rattle.picture_pieces.specs.Drawn.{Drawn}
use Rattle.picture_pieces.proofs.Drawing.{chain, Making, making, relabel, items_on, items_end, ends}

abbrev Entry : Type 0
Entry = ℕ × ℕ × Option Node

abbrev close : List ℕ
close = 93 ∷ []

-- the items of a list of slots, with i items before them
abbrev after : List ℕ → ℕ → Bool → ℕ → List Entry → List ℕ
after b unit a i ts = items (slot_text (names_by a)) i (map (slot_seen_by (view b) unit) ts) ++ close

-- what holds at each turn; o and at are those after the opening bracket
pub record Along (b : List ℕ) (unit : ℕ) (a : Bool) (o : List ℕ) (at : ℕ) (o' : List ℕ) (r k i : ℕ) : Type 0 where
  pub text : Making o at (after b unit a 0 (slots_of (view b) unit)) (after b unit a i (drop k (slots_of (view b) unit))) o' r

pub along_starts : (b : List ℕ) (unit : ℕ) (a : Bool) (o : List ℕ) (at : ℕ) → Along b unit a o at o at 0 0
along_starts b unit a o at = record { text = making }

module _ (b : List ℕ) (unit : ℕ) (ps : List ℕ) (count : ℕ) (P : Places b unit ps count) (a : Bool) (o : List ℕ) (at : ℕ) (o' : List ℕ) (r k i : ℕ) (G : Along b unit a o at o' r k i) where
  abbrev slots : List Entry
  slots = slots_of (view b) unit

  pub along_on : k < count → (o₁ : List ℕ) (q : ℕ) (o₂ : List ℕ) (s : ℕ) → Drawn o' r (comma i) o₁ q
      → Drawn o₁ q (slot_text (names_by a) (slot_seen_by (view b) unit (get_or slots k (0, 0, None)))) o₂ s → Along b unit a o at o₂ s (k + 1) 1
  along_on l o₁ q o₂ s v d = subst (λ (j : ℕ). Along b unit a o at o₂ s j 1) (sym (add-one k)) (record {
    text = items_on (slot_text (names_by a)) i (slot_seen_by (view b) unit (get_or slots k (0, 0, None))) (map (slot_seen_by (view b) unit) (drop (suc k) slots)) close
        (relabel (ap (after b unit a i) (drop-cons slots k (0, 0, None) (omega (arith, P.count)))) G.text) v d;
  })

  pub along_ends : count ≤ k → (o₀ : List ℕ) (at₀ : ℕ) → Drawn o₀ at₀ (91 ∷ []) o at → (o₁ : List ℕ) (q : ℕ) → Drawn o' r close o₁ q
      → Drawn o₀ at₀ (array (slot_text (names_by a)) (map (slot_seen_by (view b) unit) slots)) o₁ q
  unfolding array
  along_ends l o₀ at₀ v o₁ q d =
      chain v (ends (items_end (slot_text (names_by a)) i close (relabel (ap (after b unit a i) (drop_of_length-le slots {i = k} (omega (arith, P.count)))) G.text)) d)
