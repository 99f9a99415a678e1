-- A slot changed, over interfaces and nodes as functions. The other slots show what they showed, since no circle changes; the changed one shows
-- what it is said to; and the ledger's own readings of `place` say the same of every part. Assumes nothing.
use Rattle.std.specs.Prelude.{None, Option}
use Prim.Native.Nat.{ℕ, ◌+◌, ◌-◌, ◌*◌, ◌<◌, ◌≤◌}
use mathlib.Core.Path.{◌≡◌, refl, ap, ap₂, sym, ◌∙◌}
use mathlib.Core.Logic.{◌≢◌}
use mathlib.Core.List.{List}
use native.Mathlib.Omega.{arith}
use lib.IntN.{ℤ, pos, ◌+ℤ◌, ◌-ℤ◌}
use Rattle.kinds.specs.declared.GrowState.{GrowState}
use Rattle.kinds.specs.declared.GrowState.TheVariants.{Grow as Growing, Stay, Shrink}
use Rattle.kinds.specs.declared.Class.{Class}
use Rattle.kinds.specs.declared.Class.TheVariants.{Absent, Blossom, Defect}
use Rattle.bench_words.proofs.Laws.{GoodUp}
use Rattle.bench_words.specs.declared.Node.{Node}
use Rattle.bench_words.specs.declared.Interface.{Interface}
use Rattle.ledger_spec.specs.Bench.{rate, Member}
use Rattle.ledger_spec.specs.Bench as plain
use Rattle.ledger_spec.specs.Look.{top}
use Rattle.ledger_spec.specs.Change.{share, place, mark, restate}
use Rattle.ledger_spec.specs.Named.{state_named, parent_named}
use Rattle.bench_views.specs.Records.{rate_of}
use Rattle.bench_views.specs.View.{lag_of, off, sum_up, slot_seen, slot_in, view_in, circle_of, value_by, bias_of}
use Rattle.bench_views.proofs.Offsets.{off_both, rates}
use Rattle.bench_views.proofs.Sums.{sum_up_same}
use Rattle.bench_views.proofs.Views.{view_slot, unit_kept, place_view}
use Rattle.deed_nodes.specs.Steps.{remarked}
use Rattle.deed_nodes.specs.declared.Seat.{Seat}
use Rattle.bench_words.specs.Store.{set_speed}

-- ---- values
pub value_back : (g : GrowState) (v t : ℕ) → t ≤ v → value_by g (bias_of g v t) t ≡ v
value_back Growing v t l = omega arith
value_back Stay v t l = refl
value_back Shrink v t l = omega arith

pub value_low : (g : GrowState) (b t : ℕ) → 576460752303423488 ≤ b → t ≤ 8796093022208 → t ≤ value_by g b t
value_low Growing b t l h = omega arith
value_low Stay b t l h = omega arith
value_low Shrink b t l h = omega arith

pub value_high : (g : GrowState) (b t : ℕ) → b ≤ 2305843009213693952 → t ≤ 8796093022208 → value_by g b t + t < 18446744073709551616
value_high Growing b t l h = omega arith
value_high Stay b t l h = omega arith
value_high Shrink b t l h = omega arith

pub rate_small : (g : GrowState) → rate_of g ≤ 2
rate_small Growing = omega arith
rate_small Stay = omega arith
rate_small Shrink = omega arith

-- ---- a slot, by the class of its node
pub slot_like : (n : Node) (t : ℕ) (ms ms' : List Member) → (n.class ≡ Blossom → ms ≡ ms') → slot_seen n t ms ≡ slot_seen n t ms'
unfolding slot_seen
slot_like n t ms ms' h = go n.class refl
  where
    go : (c : Class) → n.class ≡ c → slot_seen n t ms ≡ slot_seen n t ms'
    go Absent e = rw e
    go Blossom e = ap (slot_seen n t) (h e)
    go (Defect v) e = rw e

pub slot_share : (n : Node) (t : ℕ) (ms : List Member) → (n.class ≡ Absent → ⊥) → share (slot_seen n t ms) ≡ rate (state_named n.state)
unfolding slot_seen
slot_share n t ms h = go n.class refl
  where
    go : (c : Class) → n.class ≡ c → share (slot_seen n t ms) ≡ rate (state_named n.state)
    go Absent e = absurd (h e)
    go Blossom e = rw e
    go (Defect v) e = rw e

slot_marked : (n : Node) (t : ℕ) (ms : List Member) (g : GrowState) (x : Seat) → t ≤ value_by n.state n.bias t
    → slot_seen (remarked n t g x) t ms ≡ restate (slot_seen n t ms) (state_named g) (parent_named x.parent)
unfolding slot_seen
slot_marked n t ms g x low = go n.class refl
  where
    go : (c : Class) → n.class ≡ c → slot_seen (remarked n t g x) t ms ≡ restate (slot_seen n t ms) (state_named g) (parent_named x.parent)
    go Absent e = rw e
    go Blossom e = rw e (rw (value_back g (value_by n.state n.bias t) t low))
    go (Defect v) e = rw e (rw (value_back g (value_by n.state n.bias t) t low))

pub speed_turns : (x y a b : ℕ) → y + b ≡ x + a → off 1024 y ≡ off 1024 x +ℤ (pos a -ℤ pos b)
speed_turns x y a b e =
    let q : y ≡ x + a - b = omega arith in
    ap (off 1024) q ∙ off_both 1024 x a b (omega arith)

-- ---- node s of interface u, in the tree of t
module _ (n : ℕ) (U U' : ℕ → Interface) (A A' : ℕ → Node) (u s t sp : ℕ)
    (good : (v : ℕ) → v < 8 → GoodUp (U v).parent) (few : (v : ℕ) → v < 8 → (U v).used ≤ 64)
    (lu : u < 8) (ls : s < (U u).used) (lt : t < 8) (tops : top (view_in n U A) u ≡ t)
    (here : U' t ≡ set_speed (U t) sp) (there : (v : ℕ) → v < 8 → v ≢ t → U' v ≡ U v)
    (others : (j : ℕ) → j ≢ u * 64 + s → A' j ≡ A j)
    (circles : (v r : ℕ) → v < 8 → r < (U v).used → (A' (v * 64 + r)).class ≡ Blossom → circle_of A' (v * 64 + r) ≡ circle_of A (v * 64 + r)) where
  kept : {X : Type 0} (φ : Interface → X) → ((x : Interface) (z : ℕ) → φ (set_speed x z) ≡ φ x) → (v : ℕ) → v < 8 → φ (U' v) ≡ φ (U v)
  kept = unit_kept n U U' A A' u s t sp None lu ls lt tops here there

  sums : (v : ℕ) → v < 8 → sum_up 8 U' v ≡ sum_up 8 U v
  sums v lv = sum_up_same U U' good (kept (λ x. x.parent) (λ x z. refl)) (kept (λ x. lag_of x) (λ x z. refl)) 8 v lv

  pub put_in : (y : Option plain.Node) → off 1024 sp ≡ off 1024 (U t).speed +ℤ (share y -ℤ share (slot_in U A u s))
      → slot_seen (A' (u * 64 + s)) (sum_up 8 U u) (circle_of A' (u * 64 + s)) ≡ y → view_in n U' A' ≡ place (view_in n U A) u s y
  put_in y fast new =
      place_view n U U' A A' u s t sp y lu ls lt tops here there fast
      (ap (λ (w : ℕ). slot_seen (A' (u * 64 + s)) w (circle_of A' (u * 64 + s))) (sums u lu) ∙ new)
      (λ v r lv lr ne.
      let far : v * 64 + r ≡ u * 64 + s → ⊥ = λ e. ne (omega (arith, few u lu, few v lv)) (omega (arith, few u lu, few v lv)) in
      let same = others (v * 64 + r) far in
      ap₂ (λ (m : Node) (w : ℕ). slot_seen m w (circle_of A' (v * 64 + r))) same (sums v lv)
      ∙ slot_like (A (v * 64 + r)) (sum_up 8 U v) (circle_of A' (v * 64 + r)) (circle_of A (v * 64 + r)) (λ c. circles v r lv lr (ap (λ (m : Node). m.class) same ∙ c)))

  pub mark_in : (g : GrowState) (x : Seat) (serial : ℕ) → A' (u * 64 + s) ≡ remarked (A (u * 64 + s)) (sum_up 8 U u) g x → ((A (u * 64 + s)).class ≡ Absent → ⊥)
      → sum_up 8 U u ≤ value_by (A (u * 64 + s)).state (A (u * 64 + s)).bias (sum_up 8 U u) → sp + rate_of (A (u * 64 + s)).state ≡ (U t).speed + rate_of g
      → view_in n U' A' ≡ mark (view_in n U A) (record { unit = u; slot = s; serial = serial }) (state_named g) (parent_named x.parent)
  unfolding mark
  mark_in g x serial new present low speed =
      let k = u * 64 + s in
      let T = sum_up 8 U u in
      let ms = circle_of A k in
      let m : Node = remarked (A k) T g x in
      let y : Option plain.Node = restate (slot_seen (A k) T ms) (state_named g) (parent_named x.parent) in
      let shown : slot_seen m T ms ≡ y = slot_marked (A k) T ms g x low in
      let new-share : share y ≡ rate (state_named g) = sym (ap share shown) ∙ slot_share m T ms present in
      put_in y
      (speed_turns (U t).speed sp (rate_of g) (rate_of (A k).state) speed
      ∙ ap (λ (z : ℤ). off 1024 (U t).speed +ℤ z) (rates g (A k).state ∙ ap₂ (λ (a z : ℤ). a -ℤ z) (sym new-share) (sym (slot_share (A k) T ms present))))
      (ap (λ (z : Node). slot_seen z T (circle_of A' k)) new ∙ slot_like m T (circle_of A' k) ms (λ c. circles u s lu ls (ap (λ (z : Node). z.class) new ∙ c)) ∙ shown)
      ∙ ap (λ (o : Option plain.Node). place (view_in n U A) u s (restate o (state_named g) (parent_named x.parent))) (sym (view_slot n U A u s lu ls))
