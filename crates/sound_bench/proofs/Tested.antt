-- Words that pass the test show a sound bench: each fact of the ledger's own account from the test of the same thing in words. Assumes nothing.
use Rattle.std.specs.Prelude.{None, Option, Some}
use Prim.Native.Nat.{ℕ, zero, suc, ◌+◌, ◌-◌, ◌*◌, ◌/◌, ◌%◌, ◌<◌, ◌≤◌, ◌^◌}
use mathlib.Core.Path.{◌≡◌, refl, sym, ◌∙◌, ap, subst}
use mathlib.Core.Bool.{Bool, true, false, ◌&&◌, ◌||◌, true≢false}
use mathlib.Core.List.{List}
use native.Mathlib.Decide.{dec_lt}
use native.Mathlib.Omega.{arith}
use lib.Dec.{eqb, leb}
use lib.ListN.{length, get_or, get_or-eq_default}
use lib.IntN.{ℤ, pos, nat_abs}
use borrow.Author.Tests.{eqb-true, eqb-false, ne_eqb, leb-true, not-true}
use Rattle.kinds.specs.declared.Class.TheVariants.{Absent, Blossom, Defect}
use Rattle.kinds.specs.declared.Handle.{Handle as Packed}
use Rattle.bench_words.specs.Store.{node_at, interface_at}
use Rattle.bench_words.specs.declared.Interface.{Interface}
use Rattle.bench_words.specs.declared.Node.{Node}
use Rattle.bench_words.proofs.Laws.{GoodHandle, good_node}
use Rattle.ledger_spec.specs.Bench.{Handle, Member, defect, blossom, stays, fresh}
use Rattle.ledger_spec.specs.Bench as plain
use Rattle.ledger_spec.specs.Look.{interface, slot_of, climb, node_named}
use Rattle.ledger_spec.specs.Named.{handle_named, parent_named, state_named}
use Rattle.ledger_spec.specs.Deeds.{size_of}
use Rattle.ledger_spec.specs.Account.{tree_sum as Sum, rates_in}
use Rattle.ledger_spec.specs.Knit.{mk, nodes, In, Has, Up as Above, Down}
use Rattle.ledger_spec.specs.Facts.{W, Touching, Circle, Sound}
use Rattle.ledger_spec.proofs.Lists.{and_true}
use Rattle.ledger_spec.proofs.Knit.{none_some, some_eq, blossom_eq, class_apart}
use Rattle.ledger_spec.proofs.Tops.{top_root, below}
use Rattle.ledger_spec.proofs.Passed.{has_node}
use Rattle.bench_views.specs.View.{off, up_seen, over, sum_up, value_by, circle_of, handle_at, view}
use Rattle.bench_views.specs.Canon.{walk}
use Rattle.bench_views.proofs.Views.{interface_in_lem, view_next, view_eight, view_count, view_slot, view_parent}
use Rattle.bench_views.proofs.Rings.{slot_held}
use Rattle.sound_trees.specs.Below.{all_to, between}
use Rattle.sound_trees.proofs.Belows.{all_each}
use Rattle.sound_trees.specs.Width.{width_of}
use Rattle.sound_trees.proofs.Widths.{width_is}
use Rattle.sound_nodes.specs.Nodes.{handle_in}
use Rattle.sound_tops.specs.Tops.{pace_of, top_in}
use Rattle.sound_serials.specs.Different.{serial_at, unlike, once_test}
use Rattle.sound_floors.proofs.Level.{floors_say}
use Rattle.sound_bench.proofs.Circles.{length_follow, member_at_lem, node_at_lem, once, sizes_follow}
use Rattle.sound_bench.proofs.Speeds.{range_off, off_both_sides, under_pace}
use Rattle.sound_bench.proofs.Seeing.{shown_as, Shown, ring, single, seen, see_ring}
use Rattle.sound_bench.proofs.Nodes as nodes-in
use Rattle.sound_bench.proofs.Nodes.{class_present, class_single, near_says}
use Rattle.sound_bench.proofs.Parts.{Kept, Parts}
use Rattle.sound_bench.proofs.Canonical.{links, frame, steady, empty_slot, present, ring_kept, seated, good_inside}

-- what is shown of a node whatever its class
pub of_shown : (b : List ℕ) (u s : ℕ) {X : Type 0} (φ : plain.Node → X) (x : X) → ((c : plain.Class) → φ (shown_as b u s c) ≡ x) → (n : plain.Node) → Shown b u s n → φ n ≡ x
of_shown b u s φ x h n (ring q e) = ap φ e ∙ h (blossom (circle_of (node_at b) (u * 64 + s)))
of_shown b u s φ x h n (single v q e) = ap φ e ∙ h (defect v.0)

pub parent_named_lem : (p : Option Packed) (h : Handle) → parent_named p ≡ Some h → (q : Packed) × (p ≡ Some q) × (handle_named q ≡ h)
parent_named_lem None h e = absurd (none_some {o = None} refl e)
parent_named_lem (Some q) h e = (q, refl, some_eq {o = Some (handle_named q)} refl e)

shown_present : (b : List ℕ) (u s : ℕ) (n : plain.Node) → Shown b u s n → (node_at b (u * 64 + s)).class ≡ Absent → ⊥
shown_present b u s n (ring q e) a = let z : Absent ≡ Blossom = sym a ∙ q in let z2 : ◌≡◌ {A = ℕ} 0 1 = cc in omega arith
shown_present b u s n (single v q e) a = let z : Absent ≡ Defect v = sym a ∙ q in let z2 : ◌≡◌ {A = ℕ} 0 1 = cc in omega arith

handle_is : (u s x v r y : ℕ) → u ≡ v → s ≡ r → x ≡ y → ◌≡◌ {A = Handle} (record { unit = u; slot = s; serial = x }) (record { unit = v; slot = r; serial = y })
handle_is u s x v r y p q e = λ i. record { unit = p i; slot = q i; serial = e i }

module _ (b : List ℕ) (P : Parts b) (len : length b ≡ 6273) where
  abbrev A : ℕ → Node
  A = node_at b

  abbrev N : ℕ
  N = get_or b 0 0

  few : (u : ℕ) → u < 8 → (interface_at b u).used ≤ 64
  few u l = (links b P len u l).used

  -- ---- a node of the view in words
  record Here (u s : ℕ) (n : plain.Node) : Type 0 where
    unit : u < 8
    slot : s < 64
    used : s < (interface_at b u).used
    shown : Shown b u s n
    kept : Kept b u s
    serial : n.serial ≡ (A (u * 64 + s)).serial.0

  here : (u s : ℕ) (n : plain.Node) → slot_of (view b) u s ≡ Some n → Here u s n
  here u s n e =
      let S = seen b u s n e in
      let l : s < 64 = omega (arith, S.slot, few u S.unit) in
      record {
        unit = S.unit;
        slot = l;
        used = S.slot;
        shown = S.shown;
        kept = (present b P len u s S.unit l (shown_present b u s n S.shown)).1;
        serial = of_shown b u s (λ m. m.serial) (A (u * 64 + s)).serial.0 (λ c. refl) n S.shown;
      }

  next_is : (view b).next ≡ N
  next_is = view_next (get_or b 0 0) (interface_at b) (node_at b)

  -- ---- serials
  low : (u s : ℕ) (n : plain.Node) → slot_of (view b) u s ≡ Some n → (1 ≤ n.serial) × (n.serial < (view b).next)
  low u s n e = let H = here u s n e in (omega (arith, H.serial, H.kept.least), omega (arith, H.serial, H.kept.below, next_is))

  before : (j k : ℕ) → j < k → k < 512 → 1 ≤ serial_at b k → serial_at b j ≡ serial_at b k → ⊥
  unfolding once_test
  before j k l lk full e =
      eqb-false (serial_at b j) (serial_at b k) (not-true (eqb (serial_at b j) (serial_at b k)) (all_each (unlike b (serial_at b k)) k (rest (eqb (serial_at b k) 0) (ne_eqb (serial_at b k) 0 (λ z. omega (arith, z, full))) (P.once k lk)) j l)) e
    where
      rest : (c : Bool) → c ≡ false → (c || all_to (unlike b (serial_at b k)) k) ≡ true → all_to (unlike b (serial_at b k)) k ≡ true
      rest true q e = absurd (true≢false q)
      rest false q e = e

  one : (u s v r : ℕ) (n m : plain.Node) → slot_of (view b) u s ≡ Some n → slot_of (view b) v r ≡ Some m → n.serial ≡ m.serial → (u ≡ v) × (s ≡ r)
  one u s v r n m e f q = go (dec_lt (u * 64 + s) (v * 64 + r)) (dec_lt (v * 64 + r) (u * 64 + s))
    where
      H : Here u s n
      H = here u s n e

      G : Here v r m
      G = here v r m f

      same : (A (u * 64 + s)).serial.0 ≡ (A (v * 64 + r)).serial.0
      same = sym H.serial ∙ q ∙ G.serial

      go : Dec (u * 64 + s < v * 64 + r) → Dec (v * 64 + r < u * 64 + s) → (u ≡ v) × (s ≡ r)
      go (yes l) w = absurd (before (u * 64 + s) (v * 64 + r) l (omega (arith, G.unit, G.slot)) G.kept.least same)
      go (no l) (yes w) = absurd (before (v * 64 + r) (u * 64 + s) w (omega (arith, H.unit, H.slot)) H.kept.least (sym same))
      go (no l) (no w) = (omega (arith, l, w, H.slot, G.slot), omega (arith, l, w, H.slot, G.slot))

  -- ---- up
  module _ (u s : ℕ) (n : plain.Node) (e : slot_of (view b) u s ≡ Some n) where
    abbrev k : ℕ
    k = u * 64 + s

    up_at : (q : Packed) → (A k).parent ≡ Some q → Above (slot_of (view b)) (climb 8 (view b)) u s n (handle_named q)
    up_at q p = record {
      over = shown_as b q.unit q.slot (blossom (circle_of A (q.unit * 64 + q.slot)));
      ms = circle_of A (q.unit * 64 + q.slot);
      has = record { stands = see_ring b q.unit q.slot g.0 o.0 S.ring; serial = S.serial };
      ring = refl;
      once = once m.count A m.first (mk u s n) (A k).place S.within self only;
      still = of_shown b u s (λ x. x.state) (state_named (A k).state) (λ c. refl) n H.shown ∙ ap state_named S.stays;
      older = omega (arith, H.serial, S.older);
      near = sym S.near;
    }
      where
        H : Here u s n
        H = here u s n e

        g : GoodHandle q
        g = good_inside b P len u s H.unit H.slot q p

        m : Node
        m = A (q.unit * 64 + q.slot)

        S : nodes-in.Seat b (u * 64 + s) (climb 8 (view b) u) (A k) q m
        S = (seated b P len u s H.unit H.slot q p).2

        o : (q.slot < (interface_at b q.unit).used) × Kept b q.unit q.slot
        o = present b P len q.unit q.slot g.0 g.1 (λ a. let z : Absent ≡ Blossom = sym a ∙ S.ring in let z2 : ◌≡◌ {A = ℕ} 0 1 = cc in omega arith)

        R : nodes-in.Ring A N (handle_in q.unit q.slot m) m
        R = ring_kept b P len q.unit q.slot g.0 g.1 S.ring

        self : handle_at A (walk (A k).place A m.first) ≡ mk u s n
        self = ap (handle_at A) S.seat ∙ handle_is (k / 64) (k % 64) (A k).serial.0 u s n.serial (omega (arith, H.slot)) (omega (arith, H.slot)) (sym H.serial)

        only : (i : ℕ) → i < m.count → handle_at A (walk i A m.first) ≡ mk u s n → i ≡ (A k).place
        only i l f =
            let x : walk i A m.first / 64 ≡ u = ap (λ (h : Handle). h.unit) f in
            let y : walk i A m.first % 64 ≡ s = ap (λ (h : Handle). h.slot) f in
            let w : walk i A m.first ≡ k = omega arith in
            sym (R.member i l).place ∙ ap (λ (p : ℕ). (A p).place) w

    up : (h : Handle) → n.parent ≡ Some h → Above (slot_of (view b)) (climb 8 (view b)) u s n h
    up h f =
        let r = parent_named_lem (A k).parent h (sym (of_shown b u s (λ x. x.parent) (parent_named (A k).parent) (λ c. refl) n (here u s n e).shown) ∙ f) in
        subst (λ (x : Handle). Above (slot_of (view b)) (climb 8 (view b)) u s n x) r.2 (up_at r.0 r.1)

  -- ---- down: the i-th member of a blossom's circle stands in its slot and names the blossom
  module _ (u s : ℕ) (lu : u < 8) (ls : s < 64) (rung : (A (u * 64 + s)).class ≡ Blossom) where
    abbrev c : Node
    c = A (u * 64 + s)

    R : nodes-in.Ring A N (handle_in u s c) c
    R = ring_kept b P len u s lu ls rung

    module _ (i : ℕ) (li : i < c.count) where
      abbrev p : ℕ
      p = walk i A c.first

      M : nodes-in.Member A N (handle_in u s c) c.first i
      M = R.member i li

      back : p / 64 * 64 + p % 64 ≡ p
      back = omega arith

      held : (p % 64 < (interface_at b (p / 64)).used) × Kept b (p / 64) (p % 64)
      held = let r = seated b P len (p / 64) (p % 64) (omega (arith, M.low)) (omega arith) (handle_in u s c) (ap (λ (x : ℕ). (A x).parent) back ∙ M.back) in (r.0, r.1)

      standing : (d : plain.Class) × (slot_of (view b) (p / 64) (p % 64) ≡ Some (shown_as b (p / 64) (p % 64) d))
      standing =
          let h = slot_held (A (p / 64 * 64 + p % 64)) (sum_up 8 (interface_at b) (p / 64)) (circle_of A (p / 64 * 64 + p % 64)) (class_present A N (handle_in (p / 64) (p % 64) (A (p / 64 * 64 + p % 64))) (A (p / 64 * 64 + p % 64)) held.1.class) in
          (h.0, view_slot (get_or b 0 0) (interface_at b) (node_at b) (p / 64) (p % 64) (omega (arith, M.low)) held.0 ∙ h.1)

      standing_has : Has (slot_of (view b)) (handle_at A p) (shown_as b (p / 64) (p % 64) standing.0)
      standing_has = record { stands = standing.1; serial = ap (λ (x : ℕ). (A x).serial.0) back }

      standing_parent : parent_named (A (p / 64 * 64 + p % 64)).parent ≡ Some (handle_named (handle_in u s c))
      standing_parent = ap parent_named (ap (λ (x : ℕ). (A x).parent) back ∙ M.back)

      size_is : size_of (node_named (view b) (handle_at A p)) ≡ (A p).size
      size_is = ap size_of (has_node (view b) (handle_at A p) (shown_as b (p / 64) (p % 64) standing.0) standing_has) ∙ ap (λ (x : ℕ). (A x).size) back

      touches : Touching (view b) (handle_named (A p).left) × Touching (view b) (handle_named (A p).right)
      touches = let G = good_node b p in (
        record { unit = omega (arith, G.left.0); slot = omega (arith, G.left.1); serial = omega (arith, M.left, next_is) },
        record { unit = omega (arith, G.right.0); slot = omega (arith, G.right.1); serial = omega (arith, M.right, next_is) },
      )

  ring_class : (u s : ℕ) (n : plain.Node) (ms : List Member) → Shown b u s n → n.class ≡ blossom ms → ((A (u * 64 + s)).class ≡ Blossom) × (ms ≡ circle_of A (u * 64 + s))
  ring_class u s n ms (ring q e) f = (q, blossom_eq f (ap (λ (x : plain.Node). x.class) e))
  ring_class u s n ms (single v q e) f = absurd (class_apart (ap (λ (x : plain.Node). x.class) e) f)

  down : (u s : ℕ) (m : plain.Node) (ms : List Member) (g : Handle) → slot_of (view b) u s ≡ Some m → m.class ≡ blossom ms → In g (nodes ms) → Down (slot_of (view b)) g (mk u s m)
  down u s m ms g e f i =
      let H = here u s m e in
      let r = ring_class u s m ms H.shown f in
      let t = node_at_lem (A (u * 64 + s)).count A (A (u * 64 + s)).first (subst (λ (l : List Member). In g (nodes l)) r.1 i) in
      let D : Down (slot_of (view b)) (handle_at A (walk t.0 A (A (u * 64 + s)).first)) (mk u s m) =
      record {
        node = shown_as b (walk t.0 A (A (u * 64 + s)).first / 64) (walk t.0 A (A (u * 64 + s)).first % 64) (standing u s H.unit H.slot r.0 t.0 t.1).0;
        has = standing_has u s H.unit H.slot r.0 t.0 t.1;
        parent = standing_parent u s H.unit H.slot r.0 t.0 t.1 ∙ ap Some (handle_is u s (A (u * 64 + s)).serial.0 u s m.serial refl refl (sym H.serial));
      } in
      subst (λ (x : Handle). Down (slot_of (view b)) x (mk u s m)) (sym t.2) D

  -- ---- classes
  single_size : (u s : ℕ) (n : plain.Node) → Here u s n → Shown b u s n → (v : ℕ) → n.class ≡ defect v → n.size ≡ 1
  single_size u s n H (ring q e) v f = absurd (class_apart f (ap (λ (x : plain.Node). x.class) e))
  single_size u s n H (single w q e) v f = ap (λ (x : plain.Node). x.size) e ∙ (class_single A N (handle_in u s (A (u * 64 + s))) (A (u * 64 + s)) H.kept.class w q).0

  circle_is : (u s : ℕ) (n : plain.Node) → Here u s n → (q : (A (u * 64 + s)).class ≡ Blossom) → Circle (view b) n (circle_of A (u * 64 + s))
  circle_is u s n H q = record {
    least = omega (arith, long, positive (A (u * 64 + s)).count K.some);
    most = omega (arith, long, K.few);
    size = of_shown b u s (λ x. x.size) (A (u * 64 + s)).size (λ c. refl) n H.shown ∙ K.size ∙ sym (sizes_follow (view b) (A (u * 64 + s)).count A (A (u * 64 + s)).first (λ i l. size_is u s H.unit H.slot q i l));
    touching = λ m i. let t = member_at_lem (A (u * 64 + s)).count A (A (u * 64 + s)).first i in
        subst (λ (x : Member). Touching (view b) x.touch.0 × Touching (view b) x.touch.1) (sym t.2) (touches u s H.unit H.slot q t.0 t.1);
  }
    where
      K : nodes-in.Ring A N (handle_in u s (A (u * 64 + s))) (A (u * 64 + s))
      K = ring_kept b P len u s H.unit H.slot q

      long : length (circle_of A (u * 64 + s)) ≡ (A (u * 64 + s)).count
      long = length_follow (A (u * 64 + s)).count A (A (u * 64 + s)).first

      positive : (m : ℕ) → (m ≡ 0 → ⊥) → 1 ≤ m
      positive zero z = absurd (z refl)
      positive (suc m) z = omega arith

  -- ---- tops
  W-is : (i : ℕ) → i < 8 → (interface (view b) i).parent ≡ None → width_of b i ≡ W (view b) i
  W-is = width_is b (frame b P len)

  value_near : (u s : ℕ) (n : plain.Node) → slot_of (view b) u s ≡ Some n → nat_abs n.value ≤ W (view b) (climb 8 (view b) u)
  value_near u s n e =
      let H = here u s n e in
      let m = A (u * 64 + s) in
      let t = sum_up 8 (interface_at b) u in
      let x = near_says m.state m.bias t (width_of b (climb 8 (view b) u)) H.kept.near in
      let w = W-is (climb 8 (view b) u) (below (view b) (frame b P len) 8 u H.unit) (top_root (view b) (frame b P len) u) in
      subst (λ (z : ℤ). nat_abs z ≤ W (view b) (climb 8 (view b) u)) (sym (of_shown b u s (λ y. y.value) (off 1152921504606846976 (value_by m.state m.bias t)) (λ c. refl) n H.shown))
      (subst (λ (y : ℕ). nat_abs (off 1152921504606846976 (value_by m.state m.bias t)) ≤ y) w (range_off 1152921504606846975 (value_by m.state m.bias t) (width_of b (climb 8 (view b) u)) x.0 x.1))

  top_none : (p : Option ℕ) → up_seen p ≡ None → p ≡ None
  top_none None e = refl
  top_none (Some p) e = absurd (none_some e refl)

  top_says : (i : ℕ) → i < 8 → (interface (view b) i).parent ≡ None → (between 4611686018427387904 (width_of b i * 512) (interface_at b i).sum ≡ true) × ((interface_at b i).speed ≡ 512 + pace_of b i)
  unfolding top_in
  top_says i l free =
      let q = top_none (interface_at b i).parent (sym (view_parent (get_or b 0 0) (interface_at b) (node_at b) i l) ∙ free) in
      let t = ap (λ (x : Option ℕ). over x (between 4611686018427387904 (width_of b i * 512) (interface_at b i).sum && eqb (interface_at b i).speed (512 + pace_of b i)) (λ p. true)) (sym q) ∙ P.top i l in
      let a = and_true (between 4611686018427387904 (width_of b i * 512) (interface_at b i).sum) (eqb (interface_at b i).speed (512 + pace_of b i)) t in
      (a.0, eqb-true (interface_at b i).speed (512 + pace_of b i) a.1)

  sum_near : (i : ℕ) → i < 8 → (interface (view b) i).parent ≡ None → nat_abs (interface (view b) i).sum ≤ 512 * W (view b) i
  sum_near i l free =
      let a = top_says i l free in
      let x = and_true (leb (4611686018427387904 - width_of b i * 512) (interface_at b i).sum) _ a.0 in
      let r = range_off 4611686018427387903 (interface_at b i).sum (width_of b i * 512) (leb-true (4611686018427387904 - width_of b i * 512) (interface_at b i).sum x.0) (leb-true (interface_at b i).sum (4611686018427387904 + width_of b i * 512) x.1) in
      subst (λ (f : plain.Interface). nat_abs f.sum ≤ 512 * W (view b) i) (sym (interface_in_lem (get_or b 0 0) (interface_at b) (node_at b) i l)) (omega (arith, r, W-is i l free))

  speed_is : (i : ℕ) → i < 8 → (interface (view b) i).parent ≡ None → (interface (view b) i).speed ≡ Sum (climb 8 (view b)) (rates_in (view b)) i
  speed_is i l free =
      let e : 512 + pace_of b i ≡ pace_of b i + 512 = omega arith in
      ap (λ (f : plain.Interface). f.speed) (interface_in_lem (get_or b 0 0) (interface_at b) (node_at b) i l) ∙ ap (off 1024) ((top_says i l free).1 ∙ e) ∙ off_both_sides 512 512 (pace_of b i) ∙ sym (under_pace b few (empty_slot b P len) i)

  -- ---- every interface
  any : (X : plain.Interface → Type 0) → ((u : ℕ) → u < 8 → X (interface (view b) u)) → X fresh → (u : ℕ) → X (interface (view b) u)
  any X h f u = go (dec_lt u 8)
    where
      go : Dec (u < 8) → X (interface (view b) u)
      go (yes l) = h u l
      go (no l) = let e : length (view b).interfaces ≤ u = omega (arith, view_eight (get_or b 0 0) (interface_at b) (node_at b)) in subst X (sym (get_or-eq_default (view b).interfaces fresh e)) f

  pub facts : Sound (view b)
  facts = record {
    frame = frame b P len;
    few = any (λ f. length f.slots ≤ 64) (λ u l. omega (arith, few u l, view_count (get_or b 0 0) (interface_at b) (node_at b) u l)) (omega arith);
    forward = any (λ f. f.progress ≡ pos (nat_abs f.progress)) (λ u l. subst (λ (f : plain.Interface). f.progress ≡ pos (nat_abs f.progress)) (sym (interface_in_lem (get_or b 0 0) (interface_at b) (node_at b) u l)) refl) refl;
    limit = any (λ f. nat_abs f.progress ≤ 2 ^ 40) (λ u l. subst (λ (f : plain.Interface). nat_abs f.progress ≤ 2 ^ 40) (sym (interface_in_lem (get_or b 0 0) (interface_at b) (node_at b) u l)) ((steady b P len).progress u l)) (omega arith);
    worn = omega (arith, next_is, P.worn);
    sewn = record { begun = omega (arith, next_is, positive N P.some); knit = record { low = low; one = one; up = λ u s n h e f. up u s n e h f; down = down } };
    rings = λ u s n e. let H = here u s n e in
        record { single = λ v f. single_size u s n H H.shown v f; circle = λ ms f. let r = ring_class u s n ms H.shown f in subst (λ (l : List Member). Circle (view b) n l) (sym r.1) (circle_is u s n H r.0) };
    values = value_near;
    sums = sum_near;
    speeds = speed_is;
    floors = floors_say b P.floor;
  }
    where
      positive : (m : ℕ) → (m ≡ 0 → ⊥) → 1 ≤ m
      positive zero z = absurd (z refl)
      positive (suc m) z = omega arith
