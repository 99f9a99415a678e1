-- The index of a node, and the slot of an index: along a list of interfaces the slots of the first come first, then those of the rest; so a whole
-- interface is passed over by its number of slots. Assumes nothing.
use Rattle.std.specs.Prelude.{None, Option}
use Prim.Native.Nat.{ℕ, zero, suc, ◌+◌, ◌<◌}
use mathlib.Core.Path.{◌≡◌, refl, sym, ◌∙◌, ap}
use mathlib.Core.Logic.{◌≢◌}
use mathlib.Core.Bool.{Bool, true, false, ◌&&◌}
use mathlib.Core.List.{List, [], ◌∷◌, ◌++◌}
use native.Mathlib.Omega.{arith}
use native.Mathlib.Nat.{add-zero}
use lib.Dec.{eqb}
use borrow.Author.Tests.{eq-eqb, ne_eqb}
use lib.ListN.{get_or, length}
use Rattle.ledger_spec.specs.Bench.{Handle, Node, Bench}
use Rattle.ledger_spec.specs.Look.{interface, slot_of}
use Rattle.ledger_spec.specs.Reads.{slots_from, gather}
use Rattle.ledger_spec.specs.Check.{index_in}

abbrev Entry : Type 0
Entry = ℕ × ℕ × Option Node

-- ---- how many
pub slots_length : (u k : ℕ) (l : List (Option Node)) (ts : List Entry) → length (slots_from u k l ++ ts) ≡ length l + length ts
unfolding slots_from
slots_length u k [] ts = omega arith
slots_length u k (x ∷ xs) ts = omega (arith, slots_length u (suc k) xs ts)

pub gather_length : (b : Bench) (u : ℕ) (us : List ℕ) → length (gather b (u ∷ us)) ≡ length (interface b u).slots + length (gather b us)
unfolding gather
gather_length b u us = slots_length u 0 (interface b u).slots (gather b us)

-- ---- the slot of an index
slots_at : (u k : ℕ) (l : List (Option Node)) (ts : List Entry) (i : ℕ) (d : Entry) → i < length l → get_or (slots_from u k l ++ ts) i d ≡ (u, k + i, get_or l i None)
unfolding slots_from
slots_at u k [] ts i d h = absurd (omega arith)
slots_at u k (x ∷ xs) ts zero d h = ap (λ (m : ℕ). (u, m, x)) (sym (add-zero k))
slots_at u k (x ∷ xs) ts (suc i) d h = slots_at u (suc k) xs ts i d (omega arith) ∙ ap (λ (m : ℕ). (u, m, get_or xs i None)) (omega arith)

slots_past : (u k : ℕ) (l : List (Option Node)) (ts : List Entry) (i : ℕ) (d : Entry) → get_or (slots_from u k l ++ ts) (length l + i) d ≡ get_or ts i d
unfolding slots_from
slots_past u k [] ts i d = ap (λ (m : ℕ). get_or ts m d) (omega arith)
slots_past u k (x ∷ xs) ts i d = let e : suc (length xs) + i ≡ suc (length xs + i) = omega arith in
    ap (λ (m : ℕ). get_or ((u, k, x) ∷ (slots_from u (suc k) xs ++ ts)) m d) e ∙ slots_past u (suc k) xs ts i d

module _ (b : Bench) (u : ℕ) (us : List ℕ) (d : Entry) where
  -- in the first interface
  pub gather_at : (i : ℕ) → i < length (interface b u).slots → get_or (gather b (u ∷ us)) i d ≡ (u, i, slot_of b u i)
  unfolding gather
  gather_at i h = slots_at u 0 (interface b u).slots (gather b us) i d h ∙ ap (λ (m : ℕ). (u, m, slot_of b u i)) (omega arith)

  -- past it
  pub gather_past : (i : ℕ) → get_or (gather b (u ∷ us)) (length (interface b u).slots + i) d ≡ get_or (gather b us) i d
  unfolding gather
  gather_past i = slots_past u 0 (interface b u).slots (gather b us) i d

-- ---- the index of a node
index_next : (t : Entry) (ts : List Entry) (k : ℕ) (h : Handle) → (eqb t.0 h.unit && eqb t.1 h.slot) ≡ false → index_in (t ∷ ts) k h ≡ index_in ts (suc k) h
unfolding index_in
index_next t ts k h e = rw (e, index_in)

index_found : (t : Entry) (ts : List Entry) (k : ℕ) (h : Handle) → (eqb t.0 h.unit && eqb t.1 h.slot) ≡ true → index_in (t ∷ ts) k h ≡ k
unfolding index_in
index_found t ts k h e = rw (e, index_in)

slots_index : (k j : ℕ) (l : List (Option Node)) (ts : List Entry) (h : Handle) (i : ℕ) → h.slot ≡ j + i → i < length l → index_in (slots_from h.unit j l ++ ts) k h ≡ k + i
unfolding slots_from
slots_index k j [] ts h i e x = absurd (omega arith)
slots_index k j (o ∷ l) ts h zero e x = index_found (h.unit, j, o) (slots_from h.unit (suc j) l ++ ts) k h (ap (λ (c : Bool). c && eqb j h.slot) (eq-eqb h.unit h.unit refl) ∙ eq-eqb j h.slot (omega arith)) ∙ sym (add-zero k)
slots_index k j (o ∷ l) ts h (suc i) e x = index_next (h.unit, j, o) (slots_from h.unit (suc j) l ++ ts) k h (ap (λ (c : Bool). c && eqb j h.slot) (eq-eqb h.unit h.unit refl) ∙ ne_eqb j h.slot (λ q. omega arith))
    ∙ slots_index (suc k) (suc j) l ts h i (omega arith) (omega arith) ∙ omega arith

slots_skip : (u k j : ℕ) (l : List (Option Node)) (ts : List Entry) (h : Handle) → u ≢ h.unit → index_in (slots_from u j l ++ ts) k h ≡ index_in ts (k + length l) h
unfolding slots_from
slots_skip u k j [] ts h q = ap (λ (m : ℕ). index_in ts m h) (omega arith)
slots_skip u k j (o ∷ l) ts h q = index_next (u, j, o) (slots_from u (suc j) l ++ ts) k h (ap (λ (c : Bool). c && eqb j h.slot) (ne_eqb u h.unit q)) ∙ slots_skip u (suc k) (suc j) l ts h q ∙ ap (λ (m : ℕ). index_in ts m h) (omega arith)

module _ (b : Bench) (us : List ℕ) (k : ℕ) (h : Handle) where
  -- of a slot of the first interface: as many as stand before it there
  pub index_here : h.slot < length (interface b h.unit).slots → index_in (gather b (h.unit ∷ us)) k h ≡ k + h.slot
  unfolding gather
  index_here x = slots_index k 0 (interface b h.unit).slots (gather b us) h h.slot (omega arith) x

  -- of any other: all of the first, and on
  pub index_past : (u : ℕ) → u ≢ h.unit → index_in (gather b (u ∷ us)) k h ≡ index_in (gather b us) (k + length (interface b u).slots) h
  unfolding gather
  index_past u q = slots_skip u k 0 (interface b u).slots (gather b us) h q
