-- The lower of two numbers, as what a growth takes below 0; and a slot's value off its words. Assumes nothing.
use Rattle.std.specs.Prelude.{Option, Some}
use Prim.Native.Nat.{ℕ, suc, ◌+◌, ◌-◌, ◌*◌, ◌/◌, ◌%◌, ◌<◌, ◌≤◌}
use mathlib.Core.Path.{◌≡◌, refl, sym, ◌∙◌, ap, ap₂}
use mathlib.Core.Logic.{by_cases}
use mathlib.Core.Bool.{Bool, true, false, ◌&&◌, ◌||◌, cond}
use mathlib.Core.List.{List}
use native.Mathlib.Decide.{dec_lt}
use native.Mathlib.Omega.{arith}
use lib.Dec.{ltb}
use borrow.Author.Tests.{lt-ltb, le-ltb}
use lib.ListN.{get_or}
use lib.IntN.{pos, negsuc}
use lib.Signed.{lt_z}
use Rattle.bench_words.specs.Store.{node_at, interface_at}
use Rattle.bench_words.specs.declared.Node.{Node}
use Rattle.ledger_spec.specs.Bench as plain
use Rattle.ledger_spec.specs.Look.{slot_of}
use Rattle.ledger_spec.specs.Named.{state_named}
use Rattle.ledger_spec.specs.Tests.{is_shrink, sinks}
use Rattle.bench_views.specs.View.{off, value_by, sum_up, circle_of, slot_seen, node_seen, view}
use Rattle.bench_views.specs.Records.{Ranged}
use Rattle.bench_views.specs.Fit.{Fit}
use Rattle.bench_views.proofs.Views.{view_slot}
use Rattle.bench_views.proofs.Ranges.{ranged}
use Rattle.bench_views.proofs.Rings.{slot_held}
use Rattle.bench_views.proofs.Sums.{sum_up_le}
use Rattle.bench_views.proofs.Slots.{slot_absent}
use Rattle.bench_links.specs.Find.{absent_of}
use Rattle.bench_links.proofs.Finding.{absent_yes, absent_no}
use Rattle.bench_floors.specs.Least.{sunk, Lower}

-- ---- numbers
or_none : (a : Bool) → (a || false) ≡ a
or_none true = refl
or_none false = refl

or_some : (a : Bool) → (a || true) ≡ true
or_some true = refl
or_some false = refl

min_left : (m v x : ℕ) → v < m → ltb v x ≡ (ltb m x || ltb v x)
min_left m v x h = by_cases (dec_lt v x)
    (λ (k : v < x). lt-ltb v x k ∙ sym (ap (λ (c : Bool). ltb m x || c) (lt-ltb v x k) ∙ or_some (ltb m x)))
    (λ (k : v < x → ⊥). le-ltb v x (omega (arith, k)) ∙ sym (ap₂ ◌||◌ (le-ltb m x (omega (arith, k, h))) (le-ltb v x (omega (arith, k)))))

min_right : (m v x : ℕ) → m ≤ v → ltb m x ≡ (ltb m x || ltb v x)
min_right m v x h = by_cases (dec_lt m x)
    (λ (k : m < x). lt-ltb m x k ∙ sym (ap (λ (c : Bool). c || ltb v x) (lt-ltb m x k)))
    (λ (k : m < x → ⊥). le-ltb m x (omega (arith, k)) ∙ sym (ap₂ ◌||◌ (le-ltb m x (omega (arith, k))) (le-ltb v x (omega (arith, k, h)))))

-- a number that stands suc c higher than it is, against a length
off_below : (c x l : ℕ) → lt_z (off (suc c) x) (pos l) ≡ ltb x (suc c + l)
unfolding off
off_below c x l = by_cases (dec_lt x (suc c))
    (λ (h : x < suc c). ap (λ (t : Bool). lt_z (cond t (negsuc (suc c - suc x)) (pos (x - suc c))) (pos l)) (lt-ltb x (suc c) h) ∙ sym (lt-ltb x (suc c + l) (omega arith)))
    (λ (h : x < suc c → ⊥). ap (λ (t : Bool). lt_z (cond t (negsuc (suc c - suc x)) (pos (x - suc c))) (pos l)) (le-ltb x (suc c) (omega (arith, h))) ∙ by_cases (dec_lt x (suc c + l))
    (λ (k : x < suc c + l). lt-ltb (x - suc c) l (omega (arith, h, k)) ∙ sym (lt-ltb x (suc c + l) k))
    (λ (k : x < suc c + l → ⊥). le-ltb (x - suc c) l (omega (arith, h, k)) ∙ sym (le-ltb x (suc c + l) (omega (arith, k)))))

-- ---- a slot
module _ (b : List ℕ) (F : Fit b) (k : ℕ) (lu : k / 64 < 8) (ls : k % 64 < (interface_at b (k / 64)).used) (n : Node) (e : n ≡ node_at b k) {c : Bool} (a : c ≡ absent_of n.class) where
  split : k / 64 * 64 + k % 64 ≡ k
  split = omega arith

  slot_is : slot_of (view b) (k / 64) (k % 64) ≡ slot_seen n (sum_up 8 (interface_at b) (k / 64)) (circle_of (node_at b) k)
  slot_is = view_slot (get_or b 0 0) (interface_at b) (node_at b) (k / 64) (k % 64) lu ls
      ∙ ap (λ (x : ℕ). slot_seen (node_at b x) (sum_up 8 (interface_at b) (k / 64)) (circle_of (node_at b) x)) split
      ∙ ap (λ (x : Node). slot_seen x (sum_up 8 (interface_at b) (k / 64)) (circle_of (node_at b) k)) (sym e)

  pub lower_none : c ≡ true → (m : ℕ) → Lower b k m m
  lower_none q m = record { is = λ l. sym (ap (λ (o : Option plain.Node). sunk m l || sinks (pos l) o) (slot_is ∙ slot_absent n (sum_up 8 (interface_at b) (k / 64)) (circle_of (node_at b) k) (absent_yes n.class (sym a ∙ q))) ∙ or_none (sunk m l)) }

  module _ (q : c ≡ false) (t : ℕ) (p : t ≡ sum_up 8 (interface_at b) (k / 64)) where
    held : slot_of (view b) (k / 64) (k % 64) ≡ Some (node_seen n (sum_up 8 (interface_at b) (k / 64)) (slot_held n (sum_up 8 (interface_at b) (k / 64)) (circle_of (node_at b) k) (absent_no (sym a ∙ q))).0)
    held = slot_is ∙ (slot_held n (sum_up 8 (interface_at b) (k / 64)) (circle_of (node_at b) k) (absent_no (sym a ∙ q))).1

    bias_near : Ranged n
    bias_near = rw (e, ← split) (ranged b F.canon.steady F.within (k / 64) (k % 64) lu ls (λ z. absent_no (sym a ∙ q) (ap (λ (x : Node). x.class) e ∙ sym (ap (λ (x : ℕ). (node_at b x).class) split) ∙ z)))

    pub bias_room : (t ≤ n.bias) × (n.bias + t < 18446744073709551616)
    bias_room = let r = bias_near in let s = omega_small in (omega arith, omega arith)
      where
        omega_small : t ≤ 8796093022208
        omega_small = omega (arith, p, sum_up_le b F.canon.steady 8 (k / 64) lu)

    sinks_is : (l : ℕ) → sinks (pos l) (slot_of (view b) (k / 64) (k % 64)) ≡ (is_shrink (state_named n.state) && sunk (value_by n.state n.bias t) l)
    sinks_is l = ap (sinks (pos l)) held
        ∙ ap (λ (x : ℕ). is_shrink (state_named n.state) && lt_z (off 1152921504606846976 (value_by n.state n.bias x)) (pos l)) (sym p)
        ∙ ap (λ (x : Bool). is_shrink (state_named n.state) && x) (off_below 1152921504606846975 (value_by n.state n.bias t) l)

    module _ {y : Bool} (g : y ≡ is_shrink (state_named n.state)) where
      pub lower_still : y ≡ false → (m : ℕ) → Lower b k m m
      lower_still z m = record { is = λ l. sym (ap (λ (x : Bool). sunk m l || x) (sinks_is l ∙ ap (λ (x : Bool). x && sunk (value_by n.state n.bias t) l) (sym g ∙ z)) ∙ or_none (sunk m l)) }

      module _ (z : y ≡ true) (v : ℕ) (f : v ≡ value_by n.state n.bias t) (m : ℕ) where
        value_is : (l : ℕ) → sinks (pos l) (slot_of (view b) (k / 64) (k % 64)) ≡ sunk v l
        value_is l = sinks_is l ∙ ap₂ (λ (x : Bool) (w : ℕ). x && sunk w l) (sym g ∙ z) (sym f)

        pub lower_it : v < m → Lower b k m v
        lower_it h = record { is = λ l. min_left m v (1152921504606846976 + l) h ∙ ap (λ (x : Bool). sunk m l || x) (sym (value_is l)) }

        pub lower_not : m ≤ v → Lower b k m m
        lower_not h = record { is = λ l. min_right m v (1152921504606846976 + l) h ∙ ap (λ (x : Bool). sunk m l || x) (sym (value_is l)) }
