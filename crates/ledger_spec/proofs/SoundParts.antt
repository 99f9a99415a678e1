-- The tests behind `sound`, by the cases that they go by: an interface with a parent or none, with halves or none, a node with a parent or none.
-- Assumes nothing.
use Rattle.std.specs.Prelude.{None, Option, Some}
use Prim.Native.Nat.{ℕ, ◌*◌}
use mathlib.Core.Path.{◌≡◌, refl, sym, ◌∙◌, ap}
use mathlib.Core.Bool.{Bool, true, not, ◌&&◌, ◌||◌}
use lib.Dec.{eqb, leb, ltb}
use lib.IntN.{nat_abs, ◌-ℤ◌}
use Rattle.ledger_spec.specs.Bench.{Handle, Node, Bench}
use Rattle.ledger_spec.specs.Look.{interface, node_named, top, same_handle}
use Rattle.ledger_spec.specs.Deeds.{members}
use Rattle.ledger_spec.specs.Reads.{slots_of}
use Rattle.ledger_spec.specs.SoundTree.{all, tally, is_parent, is_half, links_up, links_down}
use Rattle.ledger_spec.specs.Sound.{is_stay, sound_parent, sound_slot, rates, sound_top, afloat, sound_floor}
use Rattle.ledger_spec.specs.Tests.{floored, same}
use Rattle.ledger_spec.proofs.Lists.{and_true, both_true, same_eq, eq_same}
use Rattle.ledger_spec.specs.Facts.{W}

pub up_none : (b : Bench) (u : ℕ) → (interface b u).parent ≡ None → links_up b u ≡ true
unfolding links_up
up_none b u e = rw (e, links_up)

pub up_open : (b : Bench) (u p : ℕ) → (interface b u).parent ≡ Some p → links_up b u ≡ (ltb u p && (leb p 7 && is_half (interface b p).halves u))
unfolding links_up
up_open b u p e = rw (e, links_up)

pub down_none : (b : Bench) (u : ℕ) → (interface b u).halves ≡ None → links_down b u ≡ true
unfolding links_down
down_none b u e = rw (e, links_down)

pub down_open : (b : Bench) (u : ℕ) (lr : ℕ × ℕ) → (interface b u).halves ≡ Some lr
    → links_down b u ≡ ((not (eqb lr.0 lr.1) && (ltb lr.0 u && ltb lr.1 u)) && (is_parent (interface b lr.0).parent u && is_parent (interface b lr.1).parent u))
unfolding links_down
down_open b u lr e = rw (e, links_down)

pub top_some : (b : Bench) (i p : ℕ) → (interface b i).parent ≡ Some p → sound_top b i ≡ true
unfolding sound_top
top_some b i p e = rw (e, sound_top)

pub top_open : (b : Bench) (i : ℕ) → (interface b i).parent ≡ None
    → sound_top b i ≡ (all (sound_slot b (W b i)) (slots_of b i) && (leb (nat_abs (interface b i).sum) (512 * W b i) && eqb (nat_abs ((interface b i).speed -ℤ rates (slots_of b i))) 0))
unfolding sound_top
top_open b i e = rw (e, sound_top)

-- the two parts of a floor's test
pub floor_parts : (b : Bench) (u : ℕ) → sound_floor b u ≡ true → ((p : ℕ) → (interface b u).parent ≡ Some p → floored b u ≡ floored b p) × ((not (floored b u) || all afloat (interface b u).slots) ≡ true)
unfolding sound_floor
floor_parts b u e = (λ p f. same_eq (floored b u) (floored b p) (sym (ap up f) ∙ a.0), a.1)
  where
    up : Option ℕ → Bool
    up q = elim q [ None ↦ true | Some p ↦ same (floored b u) (floored b p) ]

    a : (up (interface b u).parent ≡ true) × ((not (floored b u) || all afloat (interface b u).slots) ≡ true)
    a = and_true (up (interface b u).parent) (not (floored b u) || all afloat (interface b u).slots) e

pub floor_of : (b : Bench) (u : ℕ) → ((p : ℕ) → (interface b u).parent ≡ Some p → floored b u ≡ floored b p) → (not (floored b u) || all afloat (interface b u).slots) ≡ true → sound_floor b u ≡ true
unfolding sound_floor
floor_of b u h k = both_true (go (interface b u).parent refl) k
  where
    up : Option ℕ → Bool
    up q = elim q [ None ↦ true | Some p ↦ same (floored b u) (floored b p) ]

    go : (q : Option ℕ) → (interface b u).parent ≡ q → up (interface b u).parent ≡ true
    go None e = ap up e
    go (Some p) e = ap up e ∙ eq_same (floored b u) (floored b p) (h p e)

pub parent_none : (b : Bench) (h : Handle) (n : Node) → n.parent ≡ None → sound_parent b h n ≡ true
unfolding sound_parent
parent_none b h n e = rw (e, sound_parent)

pub parent_open : (b : Bench) (h q : Handle) (n : Node) → n.parent ≡ Some q
    → sound_parent b h n ≡ (((is_stay n.state && ltb n.serial q.serial) && eqb (top b q.unit) (top b h.unit)) && eqb (tally (same_handle h) (members (node_named b q))) 1)
unfolding sound_parent
parent_open b h q n e = rw (e, sound_parent)
