-- A growth by 0 leaves the very bench. Assumes nothing.
use Rattle.std.specs.Prelude.{None, Option, Some}
use Prim.Native.Nat.{ℕ, ◌<◌}
use mathlib.Core.Path.{◌≡◌, refl, ◌∙◌, ap, ap₂}
use mathlib.Core.Bool.{Bool, true, false}
use mathlib.Core.List.{List, [], ◌∷◌, map}
use lib.Dec.{eqb}
use lib.ListN.{length}
use lib.IntN.{ℤ, pos, ◌+ℤ◌, ◌*ℤ◌, +ℤ_idr, zero-*ℤ}
use lib.Seq.{ext_get_or}
use Rattle.ledger_spec.specs.Bench.{rate, Node, Interface, Bench, fresh, with_slots, with_progress, with_sum}
use Rattle.ledger_spec.specs.Look.{interface, top}
use Rattle.ledger_spec.specs.Deeds.{grow_slot, grow_by}
use Rattle.ledger_spec.proofs.TreeReadings.{in_tree, at_top, grow_length, grow_next, grow_plain, grow_interface}

no_more : (x y : ℤ) → x +ℤ pos 0 *ℤ y ≡ x
no_more x y = ap (λ (z : ℤ). x +ℤ z) (zero-*ℤ y) ∙ +ℤ_idr x

slot_zero : (o : Option Node) → grow_slot (pos 0) o ≡ o
unfolding grow_slot
slot_zero None = refl
slot_zero (Some n) = λ i. Some (record { serial = n.serial; class = n.class; state = n.state; parent = n.parent; value = no_more n.value (rate n.state) i; size = n.size })

slots_zero : (l : List (Option Node)) → map (grow_slot (pos 0)) l ≡ l
slots_zero [] = refl
slots_zero (x ∷ xs) = ap₂ ◌∷◌ (slot_zero x) (slots_zero xs)

grown_zero : (x y : Bool) (f : Interface) → at_top y (pos 0) (in_tree x (pos 0) f) ≡ f
grown_zero true true f = λ i. with_sum (with_progress (with_slots f (slots_zero f.slots i)) (+ℤ_idr f.progress i)) (no_more f.sum f.speed i)
grown_zero true false f = ap (with_slots f) (slots_zero f.slots)
grown_zero false true f = λ i. with_sum (with_progress f (+ℤ_idr f.progress i)) (no_more f.sum f.speed i)
grown_zero false false f = refl

pub grow_zero : (b : Bench) (u : ℕ) → grow_by b u (pos 0) ≡ b
grow_zero b u = λ i. record { next = grow_next b u (pos 0) i; interfaces = ext_get_or fresh (grow_by b u (pos 0)).interfaces b.interfaces long (λ w h. at w (long_as w h)) i; plain = grow_plain b u (pos 0) i }
  where
    long : length (grow_by b u (pos 0)).interfaces ≡ length b.interfaces
    long = grow_length b u (pos 0)

    long_as : (w : ℕ) → w < length (grow_by b u (pos 0)).interfaces → w < length b.interfaces
    long_as w h = rw long at h

    at : (w : ℕ) → w < length b.interfaces → interface (grow_by b u (pos 0)) w ≡ interface b w
    at w h = grow_interface b u (pos 0) w h (eqb (top b w) u) (eqb w u) refl refl ∙ grown_zero (eqb (top b w) u) (eqb w u) (interface b w)
