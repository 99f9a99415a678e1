-- The ledger's node with a serial: the first slot that holds it; serials are all different, so any slot that holds it is that one. Assumes nothing.
use Rattle.std.specs.Prelude.{None, Option, Some}
use Prim.Native.Nat.{ℕ}
use mathlib.Core.Path.{◌≡◌, refl, ap, sym, ◌∙◌}
use mathlib.Core.Logic.{◌⊎◌, inl, inr}
use mathlib.Core.Bool.{Bool, true, false}
use mathlib.Core.List.{List, [], ◌∷◌}
use lib.Dec.{eqb}
use borrow.Author.Tests.{eq-eqb, ne_eqb, eqb-true, eqb-false}
use Rattle.ledger_spec.specs.Bench.{Node, Bench}
use Rattle.ledger_spec.specs.Look.{slot_of, top}
use Rattle.ledger_spec.specs.Reads.{gather}
use Rattle.ledger_spec.specs.SoundTree.{units}
use Rattle.ledger_spec.specs.Lines.{seek, named}
use Rattle.ledger_spec.specs.Frame.{Frame}
use Rattle.ledger_spec.specs.Knit.{In, here, there, Knit}
use Rattle.ledger_spec.proofs.Knit.{none_some, some_eq}
use Rattle.ledger_spec.proofs.Lists.{not_in_nil, in_cases}
use Rattle.ledger_spec.proofs.Gathered.{in_units, gather_in, in_gather, held_unit, held_slot}
use Rattle.bench_serials.specs.Seek.{handle}

abbrev Entry : Type 0
Entry = ℕ × ℕ × Option Node

module _ (k : ℕ) where
  seek_empty : (t : Entry) (ts : List Entry) → t.2 ≡ None → seek k (t ∷ ts) ≡ seek k ts
  unfolding seek
  seek_empty t ts e = rw (e, seek)

  seek_here : (t : Entry) (n : Node) (ts : List Entry) → t.2 ≡ Some n → n.serial ≡ k → seek k (t ∷ ts) ≡ handle t.0 t.1 k
  unfolding seek
  seek_here t n ts e q = rw (e, eq-eqb k n.serial (sym q), seek)

  seek_on : (t : Entry) (n : Node) (ts : List Entry) → t.2 ≡ Some n → (n.serial ≡ k → ⊥) → seek k (t ∷ ts) ≡ seek k ts
  unfolding seek
  seek_on t n ts e q = rw (e, ne_eqb k n.serial (λ z. q (sym z)), seek)

  -- the slot that the search finds, or that there is none
  record Hit (ts : List Entry) : Type 0 where
    entry : Entry
    node : Node
    among : In entry ts
    holds : entry.2 ≡ Some node
    serial : node.serial ≡ k
    found : seek k ts ≡ handle entry.0 entry.1 k

  record Miss (ts : List Entry) : Type 0 where
    lacks : (t : Entry) (n : Node) → In t ts → t.2 ≡ Some n → n.serial ≡ k → ⊥
    found : seek k ts ≡ handle 8 0 k

  later : (t : Entry) (ts : List Entry) → seek k (t ∷ ts) ≡ seek k ts → ((n : Node) → t.2 ≡ Some n → n.serial ≡ k → ⊥) → Hit ts ⊎ Miss ts → Hit (t ∷ ts) ⊎ Miss (t ∷ ts)
  later t ts e w (inl h) = inl (record { entry = h.entry; node = h.node; among = there h.among; holds = h.holds; serial = h.serial; found = e ∙ h.found })
  later t ts e w (inr m) = inr (record { lacks = λ s n i. go s n (in_cases i); found = e ∙ m.found })
    where
      go : (s : Entry) (n : Node) → (s ≡ t) ⊎ In s ts → s.2 ≡ Some n → n.serial ≡ k → ⊥
      go s n (inl q) f = w n (ap (λ (x : Entry). x.2) (sym q) ∙ f)
      go s n (inr i) f = m.lacks s n i f

  search_all : (ts : List Entry) → Hit ts ⊎ Miss ts
  unfolding seek
  search_all [] = inr (record { lacks = λ t n i f q. not_in_nil i; found = refl })
  search_all (t ∷ ts) = go t.2 refl (search_all ts)
    where
      go : (o : Option Node) → t.2 ≡ o → Hit ts ⊎ Miss ts → Hit (t ∷ ts) ⊎ Miss (t ∷ ts)
      go None e r = later t ts (seek_empty t ts e) (λ n f q. none_some e f) r
      go (Some n) e r = test (eqb n.serial k) refl
        where
          test : (c : Bool) → eqb n.serial k ≡ c → Hit (t ∷ ts) ⊎ Miss (t ∷ ts)
          test true c =
              let q = eqb-true n.serial k c in
              inl (record { entry = t; node = n; among = here refl; holds = e; serial = q; found = seek_here t n ts e q })
          test false c =
              let q = eqb-false n.serial k c in
              later t ts (seek_on t n ts e q) (λ m f z. q (ap (λ (x : Node). x.serial) (some_eq e f) ∙ z)) r

module _ (b : Bench) (k : ℕ) where
  pub named_none : ((u s : ℕ) (n : Node) → slot_of b u s ≡ Some n → n.serial ≡ k → ⊥) → named b k ≡ handle 8 0 k
  unfolding named
  named_none w = go (search_all k (gather b units))
    where
      go : Hit k (gather b units) ⊎ Miss k (gather b units) → seek k (gather b units) ≡ handle 8 0 k
      go (inl h) = absurd (w h.entry.0 h.entry.1 h.node (sym (in_gather b units h.entry h.among).holds ∙ h.holds) h.serial)
      go (inr m) = m.found

  pub named_one : Frame b → Knit (slot_of b) b.next (top b) → (u s : ℕ) (n : Node) → slot_of b u s ≡ Some n → n.serial ≡ k → named b k ≡ handle u s k
  unfolding named
  named_one F K u s n e q = go (search_all k (gather b units))
    where
      go : Hit k (gather b units) ⊎ Miss k (gather b units) → seek k (gather b units) ≡ handle u s k
      go (inl h) =
          let w = K.one h.entry.0 h.entry.1 u s h.node n (sym (in_gather b units h.entry h.among).holds ∙ h.holds) e (h.serial ∙ sym q) in
          h.found ∙ (λ i. record { unit = w.0 i; slot = w.1 i; serial = k })
      go (inr m) = absurd (m.lacks (u, s, slot_of b u s) n (gather_in b u units s (in_units u (held_unit b F u s n e)) (held_slot b F u s n e)) e q)
