-- From the last slot to the first: what stands at a position is the index among the slots passed, as the definition searches them. Assumes nothing.
use Rattle.std.specs.Prelude.{None, Option}
use Prim.Native.Nat.{ℕ, suc, ◌+◌, ◌-◌, ◌*◌, ◌/◌, ◌%◌, ◌<◌, ◌≤◌}
use mathlib.Core.Path.{◌≡◌, refl, ap, sym, ◌∙◌, subst}
use mathlib.Core.Bool.{Bool, true, false, ◌&&◌}
use mathlib.Core.Logic.{by_cases}
use mathlib.Core.List.{List, [], ◌∷◌}
use native.Mathlib.Decide.{ℕ_discrete}
use native.Mathlib.Omega.{arith}
use lib.Dec.{eqb}
use lib.ListN.{length, drop, get_or, set, length-set, replicate, length-replicate, get_or-replicate, drop_of_length-le}
use lib.Seq.{drop-cons, get_or-set_same, get_or-set_other}
use borrow.Author.Tests.{eq-eqb, ne_eqb}
use Rattle.ledger_spec.specs.Bench.{Handle, Node}
use Rattle.ledger_spec.specs.Reads.{slots_of}
use Rattle.ledger_spec.specs.Check.{index_in}
use Rattle.bench_views.specs.View.{view}
use Rattle.bench_orders.specs.Order.{AtIndex}
use Rattle.check_places.specs.Places.{Places}
use Rattle.picture_indices.specs.Indices.{Indices}

abbrev Entry : Type 0
Entry = ℕ × ℕ × Option Node

-- ---- the definition, a slot at a time
found : (t : Entry) (ts : List Entry) (k : ℕ) (h : Handle) → t.0 ≡ h.unit → t.1 ≡ h.slot → index_in (t ∷ ts) k h ≡ k
unfolding index_in
found t ts k h p q = rw (eq-eqb t.0 h.unit p, eq-eqb t.1 h.slot q, index_in)

and_no : (x : Bool) → (x && false) ≡ false
and_no true = refl
and_no false = refl

passed : (t : Entry) (ts : List Entry) (k : ℕ) (h : Handle) → (t.0 ≡ h.unit → t.1 ≡ h.slot → ⊥) → index_in (t ∷ ts) k h ≡ index_in ts (suc k) h
unfolding index_in
passed t ts k h n = by_cases (ℕ_discrete t.0 h.unit)
    (λ (p : t.0 ≡ h.unit). rw (ne_eqb t.1 h.slot (n p), and_no (eqb t.0 h.unit), index_in))
    (λ (p : t.0 ≡ h.unit → ⊥). rw (ne_eqb t.0 h.unit p, index_in))

nowhere : (k : ℕ) (h : Handle) → index_in [] k h ≡ 0
unfolding index_in
nowhere k h = refl

-- ---- the slots from index k on have their indices
pub record Listing (b : List ℕ) (unit k : ℕ) (t : List ℕ) : Type 0 where
  pub long : length t ≡ 512
  pub at : (h : Handle) → h.unit < 8 → h.slot < 64 → get_or t (h.unit * 64 + h.slot) 0 ≡ index_in (drop k (slots_of (view b) unit)) k h

module _ (b : List ℕ) (unit : ℕ) (ps : List ℕ) (count : ℕ) (P : Places b unit ps count) where
  pub listing_starts : Listing b unit count (replicate 512 0)
  listing_starts = record {
    long = length-replicate {A = ℕ} 512 0;
    at = λ h u s. get_or-replicate {A = ℕ} 512 (h.unit * 64 + h.slot) 0 0 (omega arith) ∙ sym (nowhere count h)
        ∙ sym (ap (λ (ts : List Entry). index_in ts count h) (drop_of_length-le (slots_of (view b) unit) {i = count} (omega (arith, P.count))));
  }

  pub back_low : (k : ℕ) → 0 < k → k ≤ count → get_or ps (k - 1) 0 < 512
  back_low k z l = let I : AtIndex b unit (k - 1) (get_or ps (k - 1) 0) = P.at (k - 1) (omega arith) in let u = I.low in omega arith

  module _ (k : ℕ) (l : k < count) where
    abbrev p : ℕ
    p = get_or ps k 0

    low_place : p < 512
    low_place = let I : AtIndex b unit k p = P.at k l in let u = I.low in omega arith

    split : drop k (slots_of (view b) unit) ≡ (p / 64, p % 64, (get_or (slots_of (view b) unit) k (0, 0, None)).2) ∷ drop (suc k) (slots_of (view b) unit)
    split =
        let I : AtIndex b unit k p = P.at k l in
        let e : get_or (slots_of (view b) unit) k (0, 0, None) ≡ (p / 64, p % 64, (get_or (slots_of (view b) unit) k (0, 0, None)).2) = I.at ∙ ap (λ (t : Entry). (p / 64, p % 64, t.2)) (sym I.at) in
        drop-cons (slots_of (view b) unit) k (0, 0, None) I.inside ∙ ap (λ (t : Entry). t ∷ drop (suc k) (slots_of (view b) unit)) e

    abbrev slot : Entry
    slot = (p / 64, p % 64, (get_or (slots_of (view b) unit) k (0, 0, None)).2)

    abbrev later : List Entry
    later = drop (suc k) (slots_of (view b) unit)

    listing_on : (t : List ℕ) → Listing b unit (suc k) t → Listing b unit k (set t p k)
    listing_on t G = record {
      long = length-set t p k ∙ G.long;
      at = λ h u s. by_cases (ℕ_discrete (h.unit * 64 + h.slot) p) (λ (e : h.unit * 64 + h.slot ≡ p). here h u s e) (λ (e : h.unit * 64 + h.slot ≡ p → ⊥). there h u s e);
    }
      where
        opened : (h : Handle) → index_in (drop k (slots_of (view b) unit)) k h ≡ index_in (slot ∷ later) k h
        opened h = ap (λ (ts : List Entry). index_in ts k h) split

        here : (h : Handle) → h.unit < 8 → h.slot < 64 → h.unit * 64 + h.slot ≡ p → get_or (set t p k) (h.unit * 64 + h.slot) 0 ≡ index_in (drop k (slots_of (view b) unit)) k h
        here h u s e =
            let w = G.long in
            ap (λ (i : ℕ). get_or (set t p k) i 0) e ∙ get_or-set_same t p k 0 (omega (arith, low_place)) ∙ sym (opened h ∙ found slot later k h (omega arith) (omega arith))

        there : (h : Handle) → h.unit < 8 → h.slot < 64 → (h.unit * 64 + h.slot ≡ p → ⊥) → get_or (set t p k) (h.unit * 64 + h.slot) 0 ≡ index_in (drop k (slots_of (view b) unit)) k h
        there h u s e = get_or-set_other t p (h.unit * 64 + h.slot) k 0 (λ z. e (omega arith)) ∙ G.at h u s
            ∙ sym (opened h ∙ passed slot later k h (λ x y. e (omega arith)))

  pub listing_back : (k : ℕ) (t : List ℕ) → 0 < k → k ≤ count → Listing b unit k t → Listing b unit (k - 1) (set t (get_or ps (k - 1) 0) (k - 1))
  listing_back k t z l G =
      let e : k ≡ suc (k - 1) = omega arith in
      listing_on (k - 1) (omega arith) t (subst (λ (i : ℕ). Listing b unit i t) e G)

  pub listing_ends : (t : List ℕ) → Listing b unit 0 t → Indices b unit t
  listing_ends t G = record { long = G.long; at = G.at }
