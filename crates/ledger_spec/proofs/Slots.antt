-- The free slot of an interface, and a list of slots after a node was put at one. Whoever cites these needs to know only that the slot is free
-- (`Vacant`), not how it is chosen. Assumes nothing.
use Rattle.std.specs.Prelude.{None, Option, Some}
use Prim.Native.Nat.{ℕ, zero, suc, ◌≤◌, ◌<◌, max}
use mathlib.Core.Path.{◌≡◌, refl, sym, ◌∙◌, ap}
use mathlib.Core.Logic.{◌≢◌}
use mathlib.Core.Bool.{Bool, true, false}
use mathlib.Core.List.{List, [], ◌∷◌}
use native.Mathlib.Omega.{arith}
use lib.ListN.{get_or, length, get_or-eq_default}
use lib.IntN.{ℤ, pos, ◌+ℤ◌, +ℤ_assoc, +ℤ_comm, +ℤ_idl}
use Rattle.ledger_spec.specs.Bench.{Node, Bench}
use Rattle.ledger_spec.specs.Look.{interface, gap, free_slot}
use Rattle.ledger_spec.specs.Change.{put}
use Rattle.ledger_spec.specs.Tests.{is_some}
use Rattle.ledger_spec.specs.SoundTree.{tally}
use Rattle.ledger_spec.specs.Account.{slot_sum}

-- a slot that a node can be put at: no further than the end, and nothing stands there
pub record Vacant (l : List (Option Node)) (s : ℕ) : Type 0 where
  pub low : s ≤ length l
  pub bare : get_or l s None ≡ None

-- ---- the lowest empty slot
gap_vacant : (l : List (Option Node)) → Vacant l (gap l)
unfolding gap
gap_vacant [] = record { low = omega arith; bare = refl }
gap_vacant (None ∷ xs) = record { low = omega arith; bare = refl }
gap_vacant (Some n ∷ xs) = let v = gap_vacant xs in record { low = omega (arith, v.low); bare = v.bare }

-- every slot below it holds a node
pub gap_lowest : (l : List (Option Node)) (s : ℕ) → s < gap l → is_some (get_or l s None) ≡ true
unfolding gap
gap_lowest [] s h = absurd (omega arith)
gap_lowest (None ∷ xs) s h = absurd (omega arith)
gap_lowest (Some n ∷ xs) zero h = refl
gap_lowest (Some n ∷ xs) (suc s) h = gap_lowest xs s (omega arith)

-- how many nodes stand in a list of slots: no fewer than stand below the gap, and as many as there are slots only where there is none
abbrev pub present : List (Option Node) → ℕ
present l = tally is_some l

present_few : (l : List (Option Node)) → present l ≤ length l
unfolding tally
present_few [] = omega arith
present_few (None ∷ xs) = omega (arith, present_few xs)
present_few (Some n ∷ xs) = omega (arith, present_few xs)

gap_present : (l : List (Option Node)) → gap l ≤ present l
unfolding gap tally
gap_present [] = omega arith
gap_present (None ∷ xs) = omega arith
gap_present (Some n ∷ xs) = omega (arith, gap_present xs)

present_gap : (l : List (Option Node)) → length l ≤ present l → length l ≤ gap l
unfolding gap tally
present_gap [] h = omega arith
present_gap (None ∷ xs) h = absurd (omega (arith, h, present_few xs))
present_gap (Some n ∷ xs) h = omega (arith, present_gap xs (omega (arith, h)))

-- ---- the slot that a new node takes, by the mode
free_slot_lem : Bool → List (Option Node) → ℕ
free_slot_lem c l = elim c [ true ↦ gap l | false ↦ length l ]

module _ (b : Bench) (u : ℕ) where
  pub free_fills : (interface b u).marks.fills ≡ true → free_slot b u ≡ gap (interface b u).slots
  unfolding free_slot free_slot_lem
  free_fills e = ap (λ (c : Bool). free_slot_lem c (interface b u).slots) e

  pub free_plain : (interface b u).marks.fills ≡ false → free_slot b u ≡ length (interface b u).slots
  unfolding free_slot free_slot_lem
  free_plain e = ap (λ (c : Bool). free_slot_lem c (interface b u).slots) e

  pub free_vacant : Vacant (interface b u).slots (free_slot b u)
  unfolding free_slot
  free_vacant = go (interface b u).marks.fills
    where
      go : (c : Bool) → Vacant (interface b u).slots (elim c [ true ↦ gap (interface b u).slots | false ↦ length (interface b u).slots ])
      go true = gap_vacant (interface b u).slots
      go false = record { low = omega arith; bare = get_or-eq_default (interface b u).slots None (omega arith) }

  -- an interface that fills is full exactly where 64 of its nodes are present
  pub full_present : (interface b u).marks.fills ≡ true → length (interface b u).slots ≤ 64 → 64 ≤ free_slot b u → present (interface b u).slots ≡ 64
  full_present e few h = omega (arith, h, few, free_fills e, gap_present (interface b u).slots, present_few (interface b u).slots)

  pub present_full : (interface b u).marks.fills ≡ true → length (interface b u).slots ≤ 64 → present (interface b u).slots ≡ 64 → 64 ≤ free_slot b u
  present_full e few h = omega (arith, h, few, free_fills e, present_few (interface b u).slots, present_gap (interface b u).slots (omega (arith, h, few)))

-- ---- a node put at a slot
pub put_at : (l : List (Option Node)) (s : ℕ) (n : Node) → s ≤ length l → get_or (put l s n) s None ≡ Some n
unfolding put
put_at [] zero n h = refl
put_at [] (suc s) n h = absurd (omega arith)
put_at (x ∷ xs) zero n h = refl
put_at (x ∷ xs) (suc s) n h = put_at xs s n (omega arith)

pub put_off : (l : List (Option Node)) (s : ℕ) (n : Node) → s ≤ length l → (t : ℕ) → t ≢ s → get_or (put l s n) t None ≡ get_or l t None
unfolding put
put_off [] zero n h zero q = absurd (q refl)
put_off [] zero n h (suc t) q = refl
put_off [] (suc s) n h t q = absurd (omega arith)
put_off (x ∷ xs) zero n h zero q = absurd (q refl)
put_off (x ∷ xs) zero n h (suc t) q = refl
put_off (x ∷ xs) (suc s) n h zero q = refl
put_off (x ∷ xs) (suc s) n h (suc t) q = put_off xs s n (omega arith) t (λ e. q (ap suc e))

-- how many slots there are then: up to the highest one that was ever filled
pub put_count : (l : List (Option Node)) (s : ℕ) (n : Node) → s ≤ length l → length (put l s n) ≡ max (length l) (suc s)
unfolding put
put_count [] zero n h = refl
put_count [] (suc s) n h = absurd (omega arith)
put_count (x ∷ xs) zero n h = omega arith
put_count (x ∷ xs) (suc s) n h = omega (arith, put_count xs s n (omega arith))

pub put_some : (l : List (Option Node)) (s : ℕ) (n : Node) → 1 ≤ length (put l s n)
unfolding put
put_some [] s n = omega arith
put_some (x ∷ xs) zero n = omega arith
put_some (x ∷ xs) (suc s) n = omega arith

-- a sum over the slots gets the node's part
pub over_put : (φ : Option Node → ℤ) → φ None ≡ pos 0 → (l : List (Option Node)) (s : ℕ) (n : Node) → Vacant l s → slot_sum φ (put l s n) ≡ slot_sum φ l +ℤ φ (Some n)
unfolding put slot_sum
over_put φ z [] s n v = +ℤ_comm (φ (Some n)) (pos 0)
over_put φ z (x ∷ xs) zero n v = +ℤ_comm (φ (Some n)) (slot_sum φ xs) ∙ ap (λ (t : ℤ). t +ℤ φ (Some n)) (sym (ap (λ (o : Option Node). φ o +ℤ slot_sum φ xs) v.bare ∙ ap (λ (t : ℤ). t +ℤ slot_sum φ xs) z ∙ +ℤ_idl (slot_sum φ xs)))
over_put φ z (x ∷ xs) (suc s) n v = ap (λ (t : ℤ). φ x +ℤ t) (over_put φ z xs s n (record { low = omega (arith, v.low); bare = v.bare })) ∙ sym (+ℤ_assoc (φ x) (slot_sum φ xs) (φ (Some n)))
