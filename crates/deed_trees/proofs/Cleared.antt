-- Clear, done: every interface of the tree is reset, and the others are as they were. A circle lies in one tree, so a blossom that is left keeps its
-- members, and a member that is left keeps its blossom. Assumes nothing.
use Rattle.std.specs.Prelude.{None, Option, Some}
use Prim.Native.Nat.{ℕ, zero, suc, ◌+◌, ◌*◌, ◌/◌, ◌%◌, ◌<◌}
use mathlib.Core.Path.{◌≡◌, refl, ap, ap₂, sym, ◌∙◌, subst}
use mathlib.Core.Logic.{◌≢◌, by_cases}
use mathlib.Core.List.{List}
use native.Mathlib.Decide.{ℕ_discrete}
use native.Mathlib.Omega.{arith}
use lib.IntN.{pos}
use lib.ListN.{get_or}
use Rattle.kinds.specs.declared.Class.TheVariants.{Absent, Blossom}
use Rattle.kinds.specs.declared.Handle.{Handle as Packed}
use Rattle.slot_map.specs.Slots.{map_of}
use Rattle.bench_words.specs.Store.{node_at, interface_at, map_at, no_interface}
use Rattle.bench_words.proofs.Laws.{GoodUp, good_interface}
use Rattle.bench_words.specs.declared.Node.{Node}
use Rattle.bench_words.specs.declared.Interface.{Interface}
use Rattle.ledger_spec.specs.Bench.{Bench, fresh}
use Rattle.ledger_spec.specs.Look.{top}
use Rattle.ledger_spec.specs.Deeds.{wipe}
use Rattle.ledger_spec.specs.Named.{handle_named, parent_named}
use Rattle.ledger_spec.proofs.Tops.{top_parent}
use Rattle.ledger_spec.proofs.TreeReadings.{wipe_length, wipe_next, wipe_plain, wipe_under, wipe_else}
use Rattle.bench_views.specs.Records.{no_node}
use Rattle.bench_views.specs.Tab.{tab}
use Rattle.bench_views.specs.View.{lag_of, off, up_seen, halves_seen, marks_seen, sum_up, over, slot_in, slot_seen, circle_of, interface_in, view_in, view}
use Rattle.bench_views.specs.Canon.{walk, held_in, Seated, Alone, Canon}
use Rattle.bench_views.specs.Fit.{Fit, Done}
use Rattle.bench_views.proofs.Offsets.{off_zero}
use Rattle.bench_views.proofs.Tabs.{tab_same}
use Rattle.bench_views.proofs.Views.{interface_in_lem, interface_is, view_is, view_next, view_plain, view_eight, view_parent, view_slot}
use Rattle.bench_views.proofs.Circles.{same_eq, circle_same}
use Rattle.bench_views.proofs.Rings.{Ringed, ringed, ring_near, slot_held}
use Rattle.bench_views.proofs.Maps.{maps_same, map_bare}
use Rattle.deed_nodes.proofs.Puts.{slot_like}
use Rattle.deed_nodes.proofs.Keeps.{modes_kept, not_blossom, used_slot, ringed_walk, Intact, intact_chain, intact_seat}
use Rattle.deed_trees.proofs.Wiping.{climb_up, Wiping}

pub not_inside : {p : Option Packed} {q : Packed} → p ≡ None → p ≡ Some q → ⊥
not_inside {q = q} x y = let z : None ≡ Some q = sym x ∙ y in let z2 : ◌≡◌ {A = ℕ} 0 1 = cc in omega arith

module _ (b : List ℕ) (u : ℕ) (F : Fit b) (b₁ : List ℕ) (w : ℕ) (G : Wiping b u b₁ w) (all : u < w) where
  abbrev B : Bench
  B = view b

  abbrev U : ℕ → Interface
  U = interface_at b

  abbrev U₁ : ℕ → Interface
  U₁ = interface_at b₁

  abbrev A : ℕ → Node
  A = node_at b

  abbrev A₁ : ℕ → Node
  A₁ = node_at b₁

  passed_by : (v : ℕ) → top B v ≡ u → v < w
  passed_by v e = omega (arith, climb_up B F.frame 8 v, e)

  interface_gone : (v : ℕ) → v < 8 → top B v ≡ u → U₁ v ≡ no_interface (U v).marks.plain
  interface_gone v lv e = G.gone v lv (passed_by v e) e

  interface_kept : (v : ℕ) → v < 8 → top B v ≢ u → U₁ v ≡ U v
  interface_kept v lv ne = G.kept v lv (λ z. ne)

  node_gone : (k : ℕ) → k < 512 → top B (k / 64) ≡ u → A₁ k ≡ no_node
  node_gone k lk e =
      let back : k / 64 * 64 + k % 64 ≡ k = omega arith in
      ap A₁ (sym back) ∙ G.bare (k / 64) (k % 64) (omega arith) (omega arith) (passed_by (k / 64) e) e

  node_kept : (k : ℕ) → k < 512 → top B (k / 64) ≢ u → A₁ k ≡ A k
  node_kept k lk ne =
      let back : k / 64 * 64 + k % 64 ≡ k = omega arith in
      ap A₁ (sym back) ∙ G.same (k / 64) (k % 64) (omega arith) (omega arith) (λ z. ne) ∙ ap A back

  map_now : (v : ℕ) → v < 8 → map_at b₁ v ≡ map_of (held_in A₁ v) 64
  map_now v lv = by_cases (ℕ_discrete (top B v) u)
      (λ (e : top B v ≡ u). G.unmarked v lv (passed_by v e) e ∙ sym (map_bare A₁ v (λ s ls. ap (λ (n : Node). n.class) (G.bare v s lv ls (passed_by v e) e))))
      (λ (ne : top B v ≡ u → ⊥). G.marked v lv (λ z. ne) ∙ F.canon.map v lv ∙ maps_same A A₁ v (λ s ls. ap (λ (n : Node). n.class) (G.same v s lv ls (λ z. ne))))

  -- a member of a circle that is left is left
  member_kept : (v r p : ℕ) → v < 8 → r < (U v).used → (A (v * 64 + r)).class ≡ Blossom → top B v ≢ u → Ringed b F.sewn v r p → A₁ p ≡ A p
  member_kept v r p lv lr e ne g =
      let lp = g.unit in
      node_kept p (omega arith) (λ z. ne (sym (ring_near b F.sewn v r p lv lr e g) ∙ z))

  -- ---- the view
  sums : (n v : ℕ) → v < 8 → top B v ≢ u → sum_up n U₁ v ≡ sum_up n U v
  unfolding sum_up
  sums zero v lv ne = refl
  sums (suc n) v lv ne = rw (interface_kept v lv ne) (ap (λ (x : ℕ). lag_of (U v) + x) (go (U v).parent refl (sums n)))
    where
      go : (q : Option ℕ) → (U v).parent ≡ q → ((p : ℕ) → p < 8 → top B p ≢ u → sum_up n U₁ p ≡ sum_up n U p) → over q 0 (sum_up n U₁) ≡ over q 0 (sum_up n U)
      go None e ih = refl
      go (Some p) e ih =
          let g : GoodUp (Some p) = rw e at (good_interface b v) in
          ih p g (λ z. ne (top_parent B F.frame v p (view_parent (get_or b 0 0) U A v lv ∙ ap up_seen e) ∙ z))

  slot_kept : (v r : ℕ) → v < 8 → r < (U v).used → top B v ≢ u → slot_in U₁ A₁ v r ≡ slot_in U A v r
  slot_kept v r lv lr ne =
      let k = v * 64 + r in
      let few = F.canon.steady.slots v lv in
      let home : k / 64 ≡ v = omega arith in
      let same : A₁ k ≡ A k = node_kept k (omega arith) (λ z. ne (ap (λ (x : ℕ). top B x) (sym home) ∙ z)) in
      ap₂ (λ (n : Node) (t : ℕ). slot_seen n t (circle_of A₁ k)) same (sums 8 v lv ne)
      ∙ slot_like (A k) (sum_up 8 U v) (circle_of A₁ k) (circle_of A k)
      (λ e. circle_same A A₁ k (ap (λ (n : Node). n.count) same) (ap (λ (n : Node). n.first) same) (λ p i. same_eq (member_kept v r p lv lr e ne (ringed b F.sewn v r lv lr e p i))))

  seen_kept : (v : ℕ) → v < 8 → top B v ≢ u → interface_in U₁ A₁ v ≡ interface_in U A v
  seen_kept v lv ne =
      let e = interface_kept v lv ne in
      interface_is (interface_in U₁ A₁ v) (interface_in U A v)
      (ap (λ (f : Interface). tab (slot_in U₁ A₁ v) 0 f.used) e ∙ tab_same (slot_in U₁ A₁ v) (slot_in U A v) (U v).used None (λ r lr. slot_kept v r lv lr ne))
      (ap (λ (f : Interface). pos f.progress) e) (ap (λ (f : Interface). off 4611686018427387904 f.sum) e) (ap (λ (f : Interface). off 1024 f.speed) e)
      (ap (λ (f : Interface). up_seen f.parent) e) (ap (λ (f : Interface). halves_seen f.left f.right) e) (ap (λ (f : Interface). marks_seen f.marks) e)

  seen_gone : (v : ℕ) → v < 8 → top B v ≡ u → interface_in U₁ A₁ v ≡ fresh
  unfolding tab
  seen_gone v lv z =
      let e = interface_gone v lv z in
      interface_is (interface_in U₁ A₁ v) fresh
      (ap (λ (f : Interface). tab (slot_in U₁ A₁ v) 0 f.used) e)
      (ap (λ (f : Interface). pos f.progress) e) (ap (λ (f : Interface). off 4611686018427387904 f.sum) e ∙ off_zero 4611686018427387904) (ap (λ (f : Interface). off 1024 f.speed) e ∙ off_zero 1024)
      (ap (λ (f : Interface). up_seen f.parent) e) (ap (λ (f : Interface). halves_seen f.left f.right) e) (ap (λ (f : Interface). marks_seen f.marks) e)

  plains : (v : ℕ) → v < 8 → (U₁ v).marks.plain ≡ (U v).marks.plain
  plains v lv = by_cases (ℕ_discrete (top B v) u)
      (λ (e : top B v ≡ u). ap (λ (f : Interface). f.marks.plain) (interface_gone v lv e))
      (λ (ne : top B v ≡ u → ⊥). ap (λ (f : Interface). f.marks.plain) (interface_kept v lv ne))

  seen : view b₁ ≡ wipe B u
  seen =
      ap (λ (n : ℕ). view_in n U₁ A₁) G.next
      ∙ view_is (get_or b 0 0) U₁ A₁ (wipe B u) (wipe_next B u ∙ view_next (get_or b 0 0) U A) (wipe_length B u ∙ view_eight (get_or b 0 0) U A) (wipe_plain B u ∙ view_plain (get_or b 0 0) U A ∙ sym (plains 0 (omega arith)))
      (λ v lv.
      by_cases (ℕ_discrete (top B v) u)
      (λ (e : top B v ≡ u). seen_gone v lv e ∙ sym (wipe_under B u v e))
      (λ (ne : top B v ≡ u → ⊥). seen_kept v lv ne ∙ sym (interface_in_lem (get_or b 0 0) U A v lv) ∙ sym (wipe_else B u v ne)))

  -- ---- the words stay canonical
  intact : (k : ℕ) → k < 512 → (A k).class ≡ Blossom → top B (k / 64) ≢ u → Intact b b₁ F.canon k
  intact k lk e ne =
      let same = node_kept k lk ne in
      let back : k / 64 * 64 + k % 64 ≡ k = omega arith in
      record {
        low = lk;
        was = e;
        class = ap (λ (n : Node). n.class) same ∙ e;
        count = ap (λ (n : Node). n.count) same;
        first = ap (λ (n : Node). n.first) same;
        members = λ i l.
            member_kept (k / 64) (k % 64) (walk i A (A k).first) (omega arith) (used_slot b F.canon k lk (λ a. not_blossom a e)) (ap (λ (x : ℕ). (A x).class) back ∙ e) ne
            (ringed_walk b F.canon F.sewn k i lk e l);
      }

  -- a node that is left has its parent left
  parent_near : (k : ℕ) (q : Packed) → k < 512 → (A k).parent ≡ Some q → top B (k / 64) ≡ top B q.unit
  parent_near k q lk e =
      let back : k / 64 * 64 + k % 64 ≡ k = omega arith in
      let C = F.canon in
      let present : (A k).class ≡ Absent → ⊥ = λ a. not_inside (ap (λ (n : Node). n.parent) (C.empty k lk a)) e in
      let held = slot_held (A k) (sum_up 8 U (k / 64)) (circle_of A (k / 64 * 64 + k % 64)) present in
      let shown = view_slot (get_or b 0 0) U A (k / 64) (k % 64) (omega arith) (used_slot b C k lk present) ∙ ap (λ (x : ℕ). slot_seen (A x) (sum_up 8 U (k / 64)) (circle_of A (k / 64 * 64 + k % 64))) back ∙ held.1 in
      (F.sewn.knit.up (k / 64) (k % 64) _ (handle_named q) shown (ap parent_named e)).near

  canon₁ : Canon b₁
  canon₁ =
      record {
        steady = G.steady;
        coded = G.coded;
        modes = modes_kept b b₁ C plains;
        whole = λ v lv e. by_cases (ℕ_discrete (top B v) u)
            (λ (z : top B v ≡ u). ap (λ (f : Interface). f.right) (interface_gone v lv z))
            (λ (ne : top B v ≡ u → ⊥). ap (λ (f : Interface). f.right) (interface_kept v lv ne) ∙ C.whole v lv (ap (λ (f : Interface). f.left) (sym (interface_kept v lv ne)) ∙ e));
        both = λ v lv ne. by_cases (ℕ_discrete (top B v) u)
            (λ (z : top B v ≡ u). absurd (ne (ap (λ (f : Interface). f.left) (interface_gone v lv z))))
            (λ (other : top B v ≡ u → ⊥). rw (interface_kept v lv other) (C.both v lv (λ e. ne (ap (λ (f : Interface). f.left) (interface_kept v lv other) ∙ e))));
        past = λ v s lv l h. by_cases (ℕ_discrete (top B v) u)
            (λ (z : top B v ≡ u). G.bare v s lv l (passed_by v z) z)
            (λ (ne : top B v ≡ u → ⊥). G.same v s lv l (λ x. ne) ∙ C.past v s lv l (omega (arith, h, ap (λ (f : Interface). f.used) (interface_kept v lv ne))));
        map = map_now;
        empty = λ k lk e. by_cases (ℕ_discrete (top B (k / 64)) u)
            (λ (z : top B (k / 64) ≡ u). node_gone k lk z)
            (λ (ne : top B (k / 64) ≡ u → ⊥). node_kept k lk ne ∙ C.empty k lk (ap (λ (n : Node). n.class) (sym (node_kept k lk ne)) ∙ e));
        defect = λ k x lk e. by_cases (ℕ_discrete (top B (k / 64)) u)
            (λ (z : top B (k / 64) ≡ u). rw (node_gone k lk z) (refl, refl))
            (λ (ne : top B (k / 64) ≡ u → ⊥). rw (node_kept k lk ne) (C.defect k x lk (ap (λ (n : Node). n.class) (sym (node_kept k lk ne)) ∙ e)));
        ring = λ k lk e. by_cases (ℕ_discrete (top B (k / 64)) u)
            (λ (z : top B (k / 64) ≡ u). absurd (not_blossom (ap (λ (n : Node). n.class) (node_gone k lk z)) e))
            (λ (ne : top B (k / 64) ≡ u → ⊥). rw (node_kept k lk ne) (C.ring k lk (ap (λ (n : Node). n.class) (sym (node_kept k lk ne)) ∙ e)));
        chain = λ k i lk e l. by_cases (ℕ_discrete (top B (k / 64)) u)
            (λ (z : top B (k / 64) ≡ u). absurd (not_blossom (ap (λ (n : Node). n.class) (node_gone k lk z)) e))
            (λ (ne : top B (k / 64) ≡ u → ⊥). intact_chain b b₁ C k (intact k lk (ap (λ (n : Node). n.class) (sym (node_kept k lk ne)) ∙ e) ne) i l);
        alone = λ k lk e. by_cases (ℕ_discrete (top B (k / 64)) u)
            (λ (z : top B (k / 64) ≡ u). rw (node_gone k lk z) (record { place = refl; next = refl; left = refl; right = refl }))
            (λ (ne : top B (k / 64) ≡ u → ⊥). subst Alone (sym (node_kept k lk ne)) (C.alone k lk (ap (λ (n : Node). n.parent) (sym (node_kept k lk ne)) ∙ e)));
        inside = λ k q lk e. by_cases (ℕ_discrete (top B (k / 64)) u)
            (λ (z : top B (k / 64) ≡ u). absurd (not_inside (ap (λ (n : Node). n.parent) (node_gone k lk z)) e))
            (λ (ne : top B (k / 64) ≡ u → ⊥). inside_kept k q lk ne (ap (λ (n : Node). n.parent) (sym (node_kept k lk ne)) ∙ e));
      }
    where
      C : Canon b
      C = F.canon

      inside_kept : (k : ℕ) (q : Packed) → k < 512 → top B (k / 64) ≢ u → (A k).parent ≡ Some q → Seated b₁ k q
      inside_kept k q lk ne e =
          let s : Seated b k q = C.inside k q lk e in
          let few = C.steady.slots q.unit s.unit in
          let ls = s.slot in
          let j = q.unit * 64 + q.slot in
          let home : j / 64 ≡ q.unit = omega arith in
          let lj : j < 512 = omega (arith, s.unit) in
          let near : top B q.unit ≢ u = λ z. ne (parent_near k q lk e ∙ z) in
          intact_seat b b₁ C k q s (intact j lj s.ring (λ z. near (ap (λ (x : ℕ). top B x) (sym home) ∙ z))) (node_kept k lk ne) (omega (arith, ap (λ (f : Interface). f.used) (interface_kept q.unit s.unit near)))

  pub wiped : Done b₁ (wipe B u)
  wiped = record { canon = canon₁; seen = seen }
