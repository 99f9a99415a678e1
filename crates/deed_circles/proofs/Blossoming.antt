-- Add blossom, done: the members are taken in and the blossom is pushed. Every node is the new one, a member, or as it was; the new circle is the one
-- given, and every other circle is as it was. Assumes nothing.
use Rattle.std.specs.Prelude.{None, Option, Some}
use Prim.Native.Nat.{ℕ, suc, max, ◌+◌, ◌-◌, ◌*◌, ◌/◌, ◌%◌, ◌<◌, ◌≤◌}
use mathlib.Core.Path.{◌≡◌, refl, ap, ap₂, sym, ◌∙◌, subst}
use mathlib.Core.Logic.{◌≢◌, by_cases}
use mathlib.Core.Bool.{true}
use mathlib.Core.List.{List}
use native.Mathlib.Decide.{ℕ_discrete}
use native.Mathlib.Omega.{arith}
use lib.IntN.{pos}
use lib.ListN.{length, get_or}
use Rattle.kinds.specs.declared.GrowState.TheVariants.{Stay}
use Rattle.kinds.specs.declared.Class.{Class}
use Rattle.kinds.specs.declared.Class.TheVariants.{Absent, Blossom, Defect}
use Rattle.kinds.specs.declared.Handle.{Handle as Packed}
use Rattle.kinds.specs.declared.Vertex.{Vertex}
use Rattle.slot_map.specs.Slots.{put}
use Rattle.bench_words.specs.Store.{node_at, interface_at, map_at}
use Rattle.bench_words.proofs.Laws.{Good, good_interface}
use Rattle.bench_words.specs.declared.Node.{Node}
use Rattle.bench_words.specs.declared.Interface.{Interface}
use Rattle.ledger_spec.specs.Bench.{Handle, grows, stays, blossom, Member, Bench}
use Rattle.ledger_spec.specs.Bench as plain
use Rattle.ledger_spec.specs.Look.{free_slot}
use Rattle.ledger_spec.specs.Change.{push, mark_all}
use Rattle.ledger_spec.specs.Deeds.{new_handle, add_blossom, circle, sizes}
use Rattle.ledger_spec.specs.Named.{handle_named}
use Rattle.bench_views.specs.Records.{with_used, no_node}
use Rattle.bench_views.specs.View.{view, view_in, lag_of, sum_up, slot_seen, circle_of, follow}
use Rattle.bench_views.specs.Canon.{walk, Seated, Alone, Canon}
use Rattle.bench_views.specs.Fit.{Fit, Done}
use Rattle.bench_views.proofs.Offsets.{off_zero}
use Rattle.bench_views.proofs.Sums.{lag_le, sum_up_same}
use Rattle.bench_views.proofs.Views.{view_next}
use Rattle.bench_views.proofs.Circles.{same_eq, circle_same}
use Rattle.bench_views.proofs.Rings.{Ringed, ringed}
use Rattle.bench_views.proofs.Maps.{held_present, mapped_put}
use Rattle.deed_nodes.specs.Steps.{remarked, pushed}
use Rattle.deed_nodes.proofs.Needs.{open_total}
use Rattle.deed_nodes.proofs.Stores.{push_next, push_unit, push_unit_here, push_unit_there, push_node_here, push_node_there, push_map_here, push_map_there, push_steady, push_coded}
use Rattle.deed_nodes.proofs.Keeps.{modes_kept, not_blossom, ringed_walk, Intact, intact_chain, intact_seat, halves_kept}
use Rattle.deed_nodes.proofs.Adds.{slot_old, ring_at, ring_old, push_in}
use Rattle.deed_nodes.proofs.Adding.{new_handle_lem}
use Rattle.deed_circles.specs.Given.{hands_given, pairs_given, spot_at}
use Rattle.deed_circles.specs.Members.{seat_of, blossom_node}
use Rattle.deed_circles.proofs.Givens.{Ringable}
use Rattle.deed_circles.proofs.Rounds.{Among, yes_at, not_at, among, Head, pacing, pacing_here, pacing_else, pacing_part, turn_off, turn_head, turn_done}
use Rattle.deed_circles.proofs.Links.{Linked, next_last, whole_ring, ring_walk}
use Rattle.deed_circles.proofs.Taking.{taking, speed_to, size_to, Taking, q₀, loose, circles, taken_view, taken_size}

blossom_seen : (s f c z t : ℕ) (ns : List Member) → t ≤ 8796093022208
    → slot_seen (blossom_node s f c z t) t ns ≡ Some (record { serial = s; class = blossom ns; state = grows; parent = None; value = pos 0; size = z })
unfolding slot_seen
blossom_seen s f c z t ns l =
    let e : 1152921504606846976 - t + t ≡ 1152921504606846976 = omega arith in
    rw (e, off_zero 1152921504606846976)

not_absent : {c : Class} → c ≡ Blossom → c ≡ Absent → ⊥
not_absent p q = not_blossom q p

not_defect : {c : Class} {v : Vertex} → c ≡ Blossom → c ≡ Defect v → ⊥
not_defect {v = v} p q = let z : Defect v ≡ Blossom = sym q ∙ p in let z2 : ◌≡◌ {A = ℕ} 0 1 = cc in omega arith

pub not_inside : {p : Option Packed} {q : Packed} → p ≡ None → p ≡ Some q → ⊥
not_inside {q = q} x y = let z : None ≡ Some q = sym x ∙ y in let z2 : ◌≡◌ {A = ℕ} 0 1 = cc in omega arith

inside_same : {x y : Packed} → Some x ≡ Some y → x ≡ y
inside_same e = cc

module _ (b : List ℕ) (u : ℕ) (ms ts : List ℕ) (F : Fit b) (R : Ringable b u ms ts) (b₁ : List ℕ) (G : Taking b u ms ts (q₀ b u ms ts F R) b₁ (size_to b ms ts (q₀ b u ms ts F R) (length ms)) (speed_to b u ms ts (q₀ b u ms ts F R) (length ms)) (length ms)) where
  abbrev q₁ : Packed
  q₁ = q₀ b u ms ts F R

  abbrev s₀ : ℕ
  s₀ = free_slot (view b) u

  abbrev K : ℕ
  K = u * 64 + s₀

  bare : (node_at b K).class ≡ Absent
  bare = R.slot.bare

  abbrev sp : ℕ
  sp = speed_to b u ms ts q₁ (length ms)

  abbrev n₁ : Node
  n₁ = blossom_node (get_or b 0 0) (spot_at ms 0) (length ms) (size_to b ms ts q₁ (length ms)) (lag_of (interface_at b u))

  abbrev b₂ : List ℕ
  b₂ = pushed b₁ u s₀ n₁ (sp + 1)

  abbrev A₂ : ℕ → Node
  A₂ = node_at b₂

  lu : u < 8
  lu = R.root.low

  room : s₀ < 64
  room = R.slot.room

  good₁ : Good n₁
  good₁ = record { serial = R.next; class = tt; parent = tt; left = (omega arith, omega arith, omega arith); right = (omega arith, omega arith, omega arith) }

  -- ---- what stands where
  node_new : A₂ K ≡ n₁
  node_new = push_node_here b₁ u s₀ n₁ (sp + 1) G.steady lu room good₁

  node_off : (k : ℕ) → k ≢ K → A₂ k ≡ taking b ms ts q₁ (length ms) k
  node_off k ne = push_node_there b₁ u s₀ n₁ (sp + 1) G.steady lu room good₁ k ne ∙ G.nodes k

  away : (j : ℕ) → j < length ms → spot_at ms j ≢ K
  away j l = slot_old b K (spot_at ms j) bare (R.stands j l).shows.present

  node_member : (j : ℕ) → j < length ms → A₂ (spot_at ms j) ≡ remarked (node_at b (spot_at ms j)) (sum_up 8 (interface_at b) (spot_at ms j / 64)) Stay (seat_of ms ts q₁ j)
  node_member j l = node_off (spot_at ms j) (away j l)
      ∙ turn_done (spot_at ms) (λ i. sum_up 8 (interface_at b) (spot_at ms i / 64)) Stay (seat_of ms ts q₁) (node_at b) (length ms) R.apart (length ms) j (omega arith) l

  node_old : (k : ℕ) → k ≢ K → ((j : ℕ) → j < length ms → k ≢ spot_at ms j) → A₂ k ≡ node_at b k
  node_old k ne off = node_off k ne ∙ turn_off (spot_at ms) (λ i. sum_up 8 (interface_at b) (spot_at ms i / 64)) Stay (seat_of ms ts q₁) (node_at b) (length ms) k off

  head : (k : ℕ) → k ≢ K → Head (A₂ k) (node_at b k)
  head k ne = subst (λ (n : Node). Head n (node_at b k)) (sym (node_off k ne)) (turn_head (spot_at ms) (λ i. sum_up 8 (interface_at b) (spot_at ms i / 64)) Stay (seat_of ms ts q₁) (node_at b) (length ms) k)

  unit_here : interface_at b₂ u ≡ with_used (interface_at b u) (max (interface_at b u).used (suc s₀)) (sp + 1)
  unit_here = push_unit_here b₁ u s₀ n₁ (sp + 1) G.steady lu room good₁ ∙ ap (λ (f : Interface). with_used f (max f.used (suc s₀)) (sp + 1)) (G.interfaces u lu)

  unit_there : (v : ℕ) → v < 8 → v ≢ u → interface_at b₂ v ≡ interface_at b v
  unit_there v lv ne = push_unit_there b₁ u s₀ n₁ (sp + 1) G.steady lu room good₁ v lv ne ∙ G.interfaces v lv

  part : {X : Type 0} (φ : Interface → X) → ((x : Interface) (m z : ℕ) → φ (with_used x m z) ≡ φ x) → (v : ℕ) → v < 8 → φ (interface_at b₂ v) ≡ φ (interface_at b v)
  part φ e v lv = push_unit b₁ u s₀ n₁ (sp + 1) G.steady lu room good₁ φ e v lv ∙ ap φ (G.interfaces v lv)

  map_here : map_at b₂ u ≡ put (map_at b u) s₀ true
  map_here = push_map_here b₁ u s₀ n₁ (sp + 1) G.steady lu room good₁ ∙ ap (λ (w : ℕ). put w s₀ true) (G.maps u lu)

  map_there : (v : ℕ) → v < 8 → v ≢ u → map_at b₂ v ≡ map_at b v
  map_there v lv ne = push_map_there b₁ u s₀ n₁ (sp + 1) G.steady lu room good₁ v lv ne ∙ G.maps v lv

  more : (v : ℕ) → v < 8 → (interface_at b v).used ≤ (interface_at b₂ v).used
  more v lv = by_cases (ℕ_discrete v u) (λ (e : v ≡ u). rw (e, unit_here) (omega arith)) (λ (ne : v ≡ u → ⊥). rw (unit_there v lv ne) (omega arith))

  -- ---- the new circle
  linked : (j : ℕ) → j < length ms → Linked ms ts j (A₂ (spot_at ms j))
  linked j l = rw (node_member j l) (record { serial = (R.stands j l).serial; next = refl; left = refl; right = refl })

  circle_new : circle_of A₂ K ≡ circle (hands_given ms) (pairs_given ts)
  circle_new = ap (λ (n : Node). follow n.count A₂ n.first) node_new ∙ whole_ring A₂ ms ts R.paired R.sure R.touch linked

  walk_new : (i : ℕ) → i < length ms → walk i A₂ (A₂ K).first ≡ spot_at ms i
  walk_new i l = ap (λ (n : Node). walk i A₂ n.first) node_new ∙ ring_walk A₂ ms ts R.paired R.sure R.touch linked i l

  -- ---- the circles as they were
  kept : (v r p : ℕ) → Ringed b F.sewn v r p → A₂ p ≡ node_at b p
  kept v r p g = node_old p (ring_old b F.sewn K v r p bare g) (λ j l. loose b u ms ts F R v r p j l g)

  circle_old : (v r : ℕ) → v < 8 → r < (interface_at b v).used → (node_at b (v * 64 + r)).class ≡ Blossom → circle_of A₂ (v * 64 + r) ≡ circle_of (node_at b) (v * 64 + r)
  circle_old v r lv lr e =
      let h = head (v * 64 + r) (ring_at b K (v * 64 + r) bare e) in
      circle_same (node_at b) A₂ (v * 64 + r) h.count h.first (λ p i. same_eq (kept v r p (ringed b F.sewn v r lv lr e p i)))

  -- ---- the view
  abbrev U₁ : ℕ → Interface
  U₁ = pacing (interface_at b) u sp

  abbrev x₁ : plain.Node
  x₁ = record { serial = get_or b 0 0; class = blossom (circle (hands_given ms) (pairs_given ts)); state = grows; parent = None; value = pos 0; size = size_to b ms ts q₁ (length ms) }

  x_is : x₁ ≡ record { serial = (view b).next; class = blossom (circle (hands_given ms) (pairs_given ts)); state = grows; parent = None; value = pos 0; size = sizes (view b) (hands_given ms) }
  x_is =
      let s : get_or b 0 0 ≡ (view b).next = sym (view_next (get_or b 0 0) (interface_at b) (node_at b)) in
      let z = taken_size b u ms ts F R in
      λ j. record { serial = s j; class = blossom (circle (hands_given ms) (pairs_given ts)); state = grows; parent = None; value = pos 0; size = z j }

  parents : (v : ℕ) → (U₁ v).parent ≡ (interface_at b v).parent
  parents = pacing_part (interface_at b) u sp (λ x. x.parent) (λ x z. refl)

  used : (v : ℕ) → (U₁ v).used ≡ (interface_at b v).used
  used = pacing_part (interface_at b) u sp (λ x. x.used) (λ x z. refl)

  total : sum_up 8 U₁ u ≡ lag_of (interface_at b u)
  total = sum_up_same (interface_at b) U₁ (λ v lv. good_interface b v) (λ v lv. parents v) (λ v lv. pacing_part (interface_at b) u sp (λ x. lag_of x) (λ x z. refl) v) 8 u lu ∙ open_total b F u R.root

  circles₂ : (v r : ℕ) → v < 8 → r < (U₁ v).used → (taking b ms ts q₁ (length ms) (v * 64 + r)).class ≡ Blossom → circle_of A₂ (v * 64 + r) ≡ circle_of (taking b ms ts q₁ (length ms)) (v * 64 + r)
  circles₂ v r lv lr e =
      let l0 : r < (interface_at b v).used = rw (used v) at lr in
      let h = turn_head (spot_at ms) (λ i. sum_up 8 (interface_at b) (spot_at ms i / 64)) Stay (seat_of ms ts q₁) (node_at b) (length ms) (v * 64 + r) in
      circle_old v r lv l0 (sym h.class ∙ e) ∙ sym (circles b u ms ts F R (length ms) v r (omega arith) lv l0 e)

  new_is : handle_named q₁ ≡ new_handle (view b) u
  new_is = new_handle_lem b u q₁ refl refl refl

  seen : view b₂ ≡ add_blossom (view b) u (hands_given ms) (pairs_given ts)
  unfolding add_blossom
  seen =
      ap (λ (m : ℕ). view_in m (interface_at b₂) A₂) (push_next b₁ u s₀ n₁ (sp + 1) G.steady lu room good₁ ∙ ap suc G.next)
      ∙ push_in (get_or b 0 0) U₁ (interface_at b₂) (taking b ms ts q₁ (length ms)) A₂ u s₀ K x₁
      (λ v lv. rw (parents v) (good_interface b v)) (λ v lv. rw (used v) (F.canon.steady.slots v lv)) lu room (rw (used u) R.slot.low) refl
      (unit_here ∙ sym (ap (λ (f : Interface). with_used f (max f.used (suc s₀)) (f.speed + 1)) (pacing_here (interface_at b) u sp)))
      (λ v lv ne. unit_there v lv ne ∙ sym (pacing_else (interface_at b) u sp v ne))
      node_off circles₂ refl
      (ap₂ (λ (n : Node) (t : ℕ). slot_seen n t (circle_of A₂ K)) node_new total
      ∙ blossom_seen (get_or b 0 0) (spot_at ms 0) (length ms) (size_to b ms ts q₁ (length ms)) (lag_of (interface_at b u)) (circle_of A₂ K) (omega (arith, F.canon.steady.progress u lu, lag_le (interface_at b u)))
      ∙ ap (λ (ns : List Member). Some (record { serial = get_or b 0 0; class = blossom ns; state = grows; parent = None; value = pos 0; size = size_to b ms ts q₁ (length ms) })) circle_new)
      ∙ ap₂ (λ (B : Bench) (x : plain.Node). push B u s₀ x)
      (taken_view b u ms ts F R ∙ ap (λ (h : Handle). mark_all (view b) (hands_given ms) stays (Some h)) new_is) x_is

  -- ---- the words stay canonical
  intact : (k : ℕ) → k < 512 → (node_at b k).class ≡ Blossom → k ≢ K → Intact b b₂ F.canon k
  intact k lk e ne =
      let h = head k ne in
      record {
        low = lk;
        was = e;
        class = h.class ∙ e;
        count = h.count;
        first = h.first;
        members = λ i l. kept (k / 64) (k % 64) (walk i (node_at b) (node_at b k).first) (ringed_walk b F.canon F.sewn k i lk e l);
      }

  seat_new : (k j : ℕ) (q : Packed) → j < length ms → k ≡ spot_at ms j → (A₂ k).parent ≡ Some q → Seated b₂ k q
  seat_new k j q l e p =
      let here : A₂ k ≡ remarked (node_at b (spot_at ms j)) (sum_up 8 (interface_at b) (spot_at ms j / 64)) Stay (seat_of ms ts q₁ j) = ap A₂ e ∙ node_member j l in
      let mine : q₁ ≡ q = inside_same (sym (ap (λ (n : Node). n.parent) here) ∙ p) in
      let place : (A₂ k).place ≡ j = ap (λ (n : Node). n.place) here in
      let count : (A₂ K).count ≡ length ms = ap (λ (n : Node). n.count) node_new in
      subst (Seated b₂ k) mine
      (record {
        unit = lu;
        slot = omega (arith, ap (λ (f : Interface). f.used) unit_here);
        ring = ap (λ (n : Node). n.class) node_new;
        within = omega arith;
        seat = ap (λ (i : ℕ). walk i A₂ (A₂ K).first) place ∙ walk_new j l ∙ sym e;
        last = λ z. ap (λ (n : Node). n.next) here ∙ next_last ms j (omega arith);
      })

  canon₂ : Canon b₂
  canon₂ =
      record {
        steady = push_steady b₁ u s₀ n₁ (sp + 1) G.steady lu room good₁;
        coded = push_coded b₁ u s₀ n₁ (sp + 1) G.steady lu room good₁ G.coded;
        modes = modes_kept b b₂ C (part (λ x. x.marks.plain) (λ x m z. refl));
        whole = hv.0;
        both = hv.1;
        past = λ v r lv l h. node_old (v * 64 + r) (far v r l h (ℕ_discrete v u)) (apart v r lv l h) ∙ C.past v r lv l (omega (arith, more v lv));
        map = mapped_put b b₂ u s₀ true C.map lu room map_here map_there (held_present (A₂ K).class (not_absent (ap (λ (n : Node). n.class) node_new))) (λ k lk q. (head k q).class);
        empty = λ k lk e. by_cases (ℕ_discrete k K)
            (λ (q : k ≡ K). absurd (not_absent (ap (λ (j : ℕ). (A₂ j).class) q ∙ ap (λ (n : Node). n.class) node_new) e))
            (λ (q : k ≡ K → ⊥). empty_old k lk q e (among (spot_at ms) k (length ms)));
        defect = λ k x lk e. by_cases (ℕ_discrete k K)
            (λ (q : k ≡ K). absurd (not_defect (ap (λ (j : ℕ). (A₂ j).class) q ∙ ap (λ (n : Node). n.class) node_new) e))
            (λ (q : k ≡ K → ⊥). let h = head k q in let d = C.defect k x lk (sym h.class ∙ e) in (h.first ∙ d.0, h.count ∙ d.1));
        ring = λ k lk e. by_cases (ℕ_discrete k K)
            (λ (q : k ≡ K). rw (q, node_new) R.some)
            (λ (q : k ≡ K → ⊥). let h = head k q in rw h.count (C.ring k lk (sym h.class ∙ e)));
        chain = λ k i lk e l. by_cases (ℕ_discrete k K)
            (λ (q : k ≡ K). chain_new k i q l)
            (λ (q : k ≡ K → ⊥). intact_chain b b₂ C k (intact k lk (sym (head k q).class ∙ e) q) i l);
        alone = λ k lk e. by_cases (ℕ_discrete k K)
            (λ (q : k ≡ K). rw (q, node_new) (record { place = refl; next = refl; left = refl; right = refl }))
            (λ (q : k ≡ K → ⊥). alone_old k lk q e (among (spot_at ms) k (length ms)));
        inside = λ k q lk e. by_cases (ℕ_discrete k K)
            (λ (z : k ≡ K). absurd (not_inside (ap (λ (j : ℕ). (A₂ j).parent) z ∙ ap (λ (n : Node). n.parent) node_new) e))
            (λ (z : k ≡ K → ⊥). inside_old k q lk z e (among (spot_at ms) k (length ms)));
      }
    where
      C : Canon b
      C = F.canon

      hv : ((v : ℕ) → v < 8 → (interface_at b₂ v).left ≡ 0 → (interface_at b₂ v).right ≡ 0) × ((v : ℕ) → v < 8 → ((interface_at b₂ v).left ≡ 0 → ⊥) → 0 < (interface_at b₂ v).right)
      hv = halves_kept b b₂ C (part (λ x. x.left) (λ x m z. refl)) (part (λ x. x.right) (λ x m z. refl))

      far : (v r : ℕ) → r < 64 → (interface_at b₂ v).used ≤ r → Dec (v ≡ u) → v * 64 + r ≢ K
      far v r l h (yes q) e = omega (arith, e, ap (λ (x : Interface). x.used) unit_here, h, q, ap (λ (z : ℕ). (interface_at b₂ z).used) q)
      far v r l h (no q) e = omega (arith, e, room)

      apart : (v r : ℕ) → v < 8 → r < 64 → (interface_at b₂ v).used ≤ r → (j : ℕ) → j < length ms → v * 64 + r ≢ spot_at ms j
      apart v r lv l h j lj e =
          let s = R.stands j lj in
          let a : v ≡ get_or ms j 0 % 8 = omega (arith, e, l) in
          omega (arith, e, l, s.slot, ap (λ (z : ℕ). (interface_at b z).used) a, more v lv, h)

      empty_old : (k : ℕ) → k < 512 → k ≢ K → (A₂ k).class ≡ Absent → Among (spot_at ms) k (length ms) → A₂ k ≡ no_node
      empty_old k lk q e (yes_at j l z) = absurd ((R.stands j l).shows.present (ap (λ (x : ℕ). (node_at b x).class) (sym z) ∙ sym (head k q).class ∙ e))
      empty_old k lk q e (not_at f) = node_old k q f ∙ C.empty k lk (sym (head k q).class ∙ e)

      chain_new : (k i : ℕ) → k ≡ K → i < (A₂ k).count → (A₂ (walk i A₂ (A₂ k).first)).place ≡ i
      chain_new k i q l =
          let l0 : i < length ms = omega (arith, l, ap (λ (j : ℕ). (A₂ j).count) q, ap (λ (n : Node). n.count) node_new) in
          ap (λ (j : ℕ). (A₂ (walk i A₂ (A₂ j).first)).place) q ∙ ap (λ (p : ℕ). (A₂ p).place) (walk_new i l0) ∙ ap (λ (n : Node). n.place) (node_member i l0)

      alone_old : (k : ℕ) → k < 512 → k ≢ K → (A₂ k).parent ≡ None → Among (spot_at ms) k (length ms) → Alone (A₂ k)
      alone_old k lk q e (yes_at j l z) = absurd (not_inside e (ap (λ (x : ℕ). (A₂ x).parent) z ∙ ap (λ (n : Node). n.parent) (node_member j l)))
      alone_old k lk q e (not_at f) = subst Alone (sym (node_old k q f)) (C.alone k lk (ap (λ (n : Node). n.parent) (sym (node_old k q f)) ∙ e))

      inside_old : (k : ℕ) (q : Packed) → k < 512 → k ≢ K → (A₂ k).parent ≡ Some q → Among (spot_at ms) k (length ms) → Seated b₂ k q
      inside_old k q lk z e (yes_at j l y) = seat_new k j q l y e
      inside_old k q lk z e (not_at f) =
          let st = C.steady in
          let s : Seated b k q = C.inside k q lk (ap (λ (n : Node). n.parent) (sym (node_old k z f)) ∙ e) in
          let off = ring_at b K (q.unit * 64 + q.slot) bare s.ring in
          intact_seat b b₂ C k q s (intact (q.unit * 64 + q.slot) (omega (arith, s.unit, s.slot, st.slots q.unit s.unit)) s.ring off) (node_old k z f) (more q.unit s.unit)

  pub blossomed : Done b₂ (add_blossom (view b) u (hands_given ms) (pairs_given ts))
  blossomed = record { canon = canon₂; seen = seen }
