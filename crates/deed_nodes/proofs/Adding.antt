-- Add defect: one node in a slot that was empty, in no circle and without links. Assumes nothing.
use Rattle.std.specs.Prelude.{None, Some}
use Prim.Native.Nat.{ℕ, suc, max, ◌+◌, ◌-◌, ◌*◌, ◌/◌, ◌%◌, ◌<◌, ◌≤◌}
use mathlib.Core.Path.{◌≡◌, refl, ap, ap₂, sym, ◌∙◌, subst}
use mathlib.Core.Logic.{◌≢◌, by_cases}
use mathlib.Core.Bool.{true}
use mathlib.Core.List.{List}
use native.Mathlib.Decide.{ℕ_discrete}
use native.Mathlib.Omega.{arith}
use lib.IntN.{pos}
use lib.ListN.{get_or}
use Rattle.kinds.specs.declared.Class.{Class}
use Rattle.kinds.specs.declared.Class.TheVariants.{Absent, Blossom, Defect}
use Rattle.kinds.specs.declared.Handle.{Handle as Packed}
use Rattle.kinds.specs.declared.Vertex.{Vertex}
use Rattle.bench_words.specs.Store.{node_at, interface_at}
use Rattle.bench_words.proofs.Laws.{Good, good_interface}
use Rattle.bench_words.specs.declared.Node.{Node}
use Rattle.bench_words.specs.declared.Interface.{Interface}
use Rattle.ledger_spec.specs.Bench.{grows, Member}
use Rattle.ledger_spec.specs.Bench as plain
use Rattle.ledger_spec.specs.Look.{free_slot}
use Rattle.ledger_spec.specs.Change.{push}
use Rattle.ledger_spec.specs.Deeds.{new_handle, add_defect}
use Rattle.ledger_spec.specs.Named.{handle_named}
use Rattle.bench_views.specs.Records.{with_used}
use Rattle.bench_views.specs.View.{lag_of, view_in, view, slot_seen, circle_of}
use Rattle.bench_views.specs.Canon.{walk, Seated, Alone, Canon}
use Rattle.bench_views.specs.Fit.{Fit, Done}
use Rattle.bench_views.proofs.Offsets.{off_zero}
use Rattle.bench_views.proofs.Sums.{sum_up_le}
use Rattle.bench_views.proofs.Views.{view_next}
use Rattle.bench_views.proofs.Circles.{same_eq, circle_same}
use Rattle.bench_views.proofs.Rings.{ringed}
use Rattle.bench_views.proofs.Maps.{held_present, mapped_put}
use Rattle.deed_nodes.specs.Steps.{defect_node, pushed}
use Rattle.deed_nodes.proofs.Needs.{Pushable, open_total}
use Rattle.deed_nodes.proofs.Stores.{push_next, push_unit, push_unit_here, push_unit_there, push_node_here, push_node_there, push_map_here, push_map_there, push_steady, push_coded}
use Rattle.deed_nodes.proofs.Keeps.{modes_kept, ringed_walk, Intact, intact_chain, intact_seat, halves_kept}
use Rattle.deed_nodes.proofs.Adds.{ring_at, ring_old, push_in}

-- the handle of the node that is added next
pub new_handle_lem : (b : List ℕ) (u : ℕ) (h : Packed) → h.unit ≡ u → h.slot ≡ free_slot (view b) u → h.serial.0 ≡ get_or b 0 0 → handle_named h ≡ new_handle (view b) u
new_handle_lem b u h eu es en =
    let n : h.serial.0 ≡ (view b).next = en ∙ sym (view_next (get_or b 0 0) (interface_at b) (node_at b)) in
    λ i. record { unit = eu i; slot = es i; serial = n i }

defect_seen : (s t : ℕ) (v : Vertex) (ms : List Member) → t ≤ 8796093022208
    → slot_seen (defect_node s v t) t ms ≡ Some (record { serial = s; class = plain.defect v.0; state = grows; parent = None; value = pos 0; size = 1 })
unfolding slot_seen
defect_seen s t v ms l =
    let e : 1152921504606846976 - t + t ≡ 1152921504606846976 = omega arith in
    rw (e, off_zero 1152921504606846976)

not_defect : {c : Class} {v : Vertex} → c ≡ Defect v → c ≡ Blossom → ⊥
not_defect {v = v} p q = let z : Defect v ≡ Blossom = sym p ∙ q in let z2 : ◌≡◌ {A = ℕ} 0 1 = cc in omega arith

not_absent : {c : Class} {v : Vertex} → c ≡ Defect v → c ≡ Absent → ⊥
not_absent {v = v} p q = let z : Defect v ≡ Absent = sym p ∙ q in let z2 : ◌≡◌ {A = ℕ} 0 1 = cc in omega arith

not_inside : {q : Packed} → None ≡ Some q → ⊥
not_inside {q} e = let z2 : ◌≡◌ {A = ℕ} 0 1 = cc in omega arith

module _ (b : List ℕ) (u : ℕ) (v : Vertex) (F : Fit b) (P : Pushable b u) (fits : v.0 < 4294967296) where
  abbrev t₀ : ℕ
  t₀ = lag_of (interface_at b u)

  abbrev s₀ : ℕ
  s₀ = free_slot (view b) u

  abbrev n₁ : Node
  n₁ = defect_node (get_or b 0 0) v t₀

  abbrev b₁ : List ℕ
  b₁ = pushed b u s₀ n₁ ((interface_at b u).speed + 1)

  abbrev K : ℕ
  K = u * 64 + s₀

  bare : (node_at b K).class ≡ Absent
  bare = P.slot.bare

  good₁ : Good n₁
  good₁ = record { serial = P.next; class = fits; parent = tt; left = (omega arith, omega arith, omega arith); right = (omega arith, omega arith, omega arith) }

  node_here : node_at b₁ K ≡ n₁
  node_here = push_node_here b u s₀ n₁ ((interface_at b u).speed + 1) F.canon.steady P.root.low P.slot.room good₁

  node_there : (j : ℕ) → j ≢ K → node_at b₁ j ≡ node_at b j
  node_there = push_node_there b u s₀ n₁ ((interface_at b u).speed + 1) F.canon.steady P.root.low P.slot.room good₁

  part : {X : Type 0} (φ : Interface → X) → ((x : Interface) (m z : ℕ) → φ (with_used x m z) ≡ φ x) → (w : ℕ) → w < 8 → φ (interface_at b₁ w) ≡ φ (interface_at b w)
  part = push_unit b u s₀ n₁ ((interface_at b u).speed + 1) F.canon.steady P.root.low P.slot.room good₁

  unit_here : interface_at b₁ u ≡ with_used (interface_at b u) (max (interface_at b u).used (suc s₀)) ((interface_at b u).speed + 1)
  unit_here = push_unit_here b u s₀ n₁ ((interface_at b u).speed + 1) F.canon.steady P.root.low P.slot.room good₁

  unit_there : (w : ℕ) → w < 8 → w ≢ u → interface_at b₁ w ≡ interface_at b w
  unit_there = push_unit_there b u s₀ n₁ ((interface_at b u).speed + 1) F.canon.steady P.root.low P.slot.room good₁

  more : (w : ℕ) → w < 8 → (interface_at b w).used ≤ (interface_at b₁ w).used
  more w lw = by_cases (ℕ_discrete w u) (λ (e : w ≡ u). rw (e, unit_here) (omega arith)) (λ (ne : w ≡ u → ⊥). rw (unit_there w lw ne) (omega arith))

  circles : (w r : ℕ) → w < 8 → r < (interface_at b w).used → (node_at b (w * 64 + r)).class ≡ Blossom → circle_of (node_at b₁) (w * 64 + r) ≡ circle_of (node_at b) (w * 64 + r)
  circles w r lw lr e =
      let same = node_there (w * 64 + r) (ring_at b K (w * 64 + r) bare e) in
      circle_same (node_at b) (node_at b₁) (w * 64 + r) (ap (λ (n : Node). n.count) same) (ap (λ (n : Node). n.first) same)
      (λ p i. same_eq (node_there p (ring_old b F.sewn K w r p bare (ringed b F.sewn w r lw lr e p i))))

  seen : view b₁ ≡ add_defect (view b) u v.0
  unfolding add_defect
  seen =
      let st = F.canon.steady in
      let short = sum_up_le b st 8 u P.root.low in
      ap (λ (m : ℕ). view_in m (interface_at b₁) (node_at b₁)) (push_next b u s₀ n₁ ((interface_at b u).speed + 1) st P.root.low P.slot.room good₁)
      ∙ push_in (get_or b 0 0) (interface_at b) (interface_at b₁) (node_at b) (node_at b₁) u s₀ K
      (record { serial = get_or b 0 0; class = plain.defect v.0; state = grows; parent = None; value = pos 0; size = 1 })
      (λ w lw. good_interface b w) st.slots P.root.low P.slot.room P.slot.low refl unit_here unit_there node_there circles refl
      (ap₂ (λ (n : Node) (t : ℕ). slot_seen n t (circle_of (node_at b₁) K)) node_here (open_total b F u P.root) ∙ defect_seen (get_or b 0 0) t₀ v (circle_of (node_at b₁) K) (omega (arith, open_total b F u P.root)))
      ∙ ap (λ (m : ℕ). push (view b) u s₀ (record { serial = m; class = plain.defect v.0; state = grows; parent = None; value = pos 0; size = 1 })) (sym (view_next (get_or b 0 0) (interface_at b) (node_at b)))

  -- ---- the words stay canonical
  intact : (k : ℕ) → k < 512 → (node_at b k).class ≡ Blossom → k ≢ K → Intact b b₁ F.canon k
  intact k lk e ne =
      let same = node_there k ne in
      record {
        low = lk;
        was = e;
        class = ap (λ (n : Node). n.class) same ∙ e;
        count = ap (λ (n : Node). n.count) same;
        first = ap (λ (n : Node). n.first) same;
        members = λ i l. node_there (walk i (node_at b) (node_at b k).first) (ring_old b F.sewn K (k / 64) (k % 64) (walk i (node_at b) (node_at b k).first) bare (ringed_walk b F.canon F.sewn k i lk e l));
      }

  was : (k : ℕ) → k ≢ K → (node_at b₁ k).class ≡ Blossom → (node_at b k).class ≡ Blossom
  was k ne e = ap (λ (n : Node). n.class) (sym (node_there k ne)) ∙ e

  canon₁ : Canon b₁
  canon₁ =
      let C = F.canon in
      let st = C.steady in
      let hv = halves_kept b b₁ C (part (λ x. x.left) (λ x m z. refl)) (part (λ x. x.right) (λ x m z. refl)) in
      record {
        steady = push_steady b u s₀ n₁ ((interface_at b u).speed + 1) st P.root.low P.slot.room good₁;
        coded = push_coded b u s₀ n₁ ((interface_at b u).speed + 1) st P.root.low P.slot.room good₁ C.coded;
        modes = modes_kept b b₁ C (part (λ x. x.marks.plain) (λ x m z. refl));
        whole = hv.0;
        both = hv.1;
        past = λ w r lw l h. node_there (w * 64 + r) (far w r l h (ℕ_discrete w u)) ∙ C.past w r lw l (omega (arith, more w lw));
        map = mapped_put b b₁ u s₀ true C.map P.root.low P.slot.room (push_map_here b u s₀ n₁ ((interface_at b u).speed + 1) st P.root.low P.slot.room good₁) (push_map_there b u s₀ n₁ ((interface_at b u).speed + 1) st P.root.low P.slot.room good₁)
            (held_present (node_at b₁ K).class (not_absent (ap (λ (n : Node). n.class) node_here))) (λ k lk q. ap (λ (n : Node). n.class) (node_there k q));
        empty = λ k lk e. by_cases (ℕ_discrete k K)
            (λ (q : k ≡ K). absurd (not_absent (ap (λ (j : ℕ). (node_at b₁ j).class) q ∙ ap (λ (n : Node). n.class) node_here) e))
            (λ (q : k ≡ K → ⊥). node_there k q ∙ C.empty k lk (ap (λ (n : Node). n.class) (sym (node_there k q)) ∙ e));
        defect = λ k x lk e. by_cases (ℕ_discrete k K)
            (λ (q : k ≡ K). rw (q, node_here) (refl, refl))
            (λ (q : k ≡ K → ⊥). rw (node_there k q) (C.defect k x lk (ap (λ (n : Node). n.class) (sym (node_there k q)) ∙ e)));
        ring = λ k lk e. by_cases (ℕ_discrete k K)
            (λ (q : k ≡ K). absurd (not_defect (ap (λ (j : ℕ). (node_at b₁ j).class) q ∙ ap (λ (n : Node). n.class) node_here) e))
            (λ (q : k ≡ K → ⊥). rw (node_there k q) (C.ring k lk (was k q e)));
        chain = λ k i lk e l. by_cases (ℕ_discrete k K)
            (λ (q : k ≡ K). absurd (not_defect (ap (λ (j : ℕ). (node_at b₁ j).class) q ∙ ap (λ (n : Node). n.class) node_here) e))
            (λ (q : k ≡ K → ⊥). intact_chain b b₁ C k (intact k lk (was k q e) q) i l);
        alone = λ k lk e. by_cases (ℕ_discrete k K)
            (λ (q : k ≡ K). rw (q, node_here) (record { place = refl; next = refl; left = refl; right = refl }))
            (λ (q : k ≡ K → ⊥). subst Alone (sym (node_there k q)) (C.alone k lk (ap (λ (n : Node). n.parent) (sym (node_there k q)) ∙ e)));
        inside = λ k q lk e. by_cases (ℕ_discrete k K)
            (λ (z : k ≡ K). absurd (not_inside (sym (ap (λ (j : ℕ). (node_at b₁ j).parent) z ∙ ap (λ (n : Node). n.parent) node_here) ∙ e)))
            (λ (z : k ≡ K → ⊥).
            let s : Seated b k q = C.inside k q lk (ap (λ (n : Node). n.parent) (sym (node_there k z)) ∙ e) in
            let far = ring_at b K (q.unit * 64 + q.slot) bare s.ring in
            intact_seat b b₁ C k q s (intact (q.unit * 64 + q.slot) (omega (arith, s.unit, s.slot, st.slots q.unit s.unit)) s.ring far) (node_there k z) (more q.unit s.unit));
      }
    where
      far : (w r : ℕ) → r < 64 → (interface_at b₁ w).used ≤ r → Dec (w ≡ u) → w * 64 + r ≢ K
      far w r l h (yes q) e = omega (arith, e, ap (λ (x : Interface). x.used) unit_here, h, q, ap (λ (z : ℕ). (interface_at b₁ z).used) q)
      far w r l h (no q) e = omega (arith, e, P.slot.room)

  pub defect_added : Done b₁ (add_defect (view b) u v.0)
  defect_added = record { canon = canon₁; seen = seen }
