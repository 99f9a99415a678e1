-- Expand, done: the members are let out, the blossom's slot is emptied and the speed set. Every node is the empty slot, a member let out, or as it was;
-- a node that was seated in the blossom is one of its members, so every seat that is left is in a circle that is left. Assumes nothing.
use Rattle.std.specs.Prelude.{None, Some}
use Prim.Native.Nat.{ℕ, ◌+◌, ◌*◌, ◌/◌, ◌%◌, ◌<◌, ◌≤◌}
use mathlib.Core.Path.{◌≡◌, refl, ap, ap₂, sym, ◌∙◌, subst, fun_ext}
use mathlib.Core.Logic.{◌≢◌, by_cases}
use mathlib.Core.Bool.{false}
use mathlib.Core.List.{List}
use native.Mathlib.Decide.{ℕ_discrete}
use native.Mathlib.Omega.{arith}
use lib.ListN.{get_or}
use Rattle.kinds.specs.declared.GrowState.TheVariants.{Grow as Growing}
use Rattle.kinds.specs.declared.Class.{Class}
use Rattle.kinds.specs.declared.Class.TheVariants.{Absent, Blossom, Defect}
use Rattle.kinds.specs.declared.Handle.{Handle as Packed}
use Rattle.kinds.specs.declared.Vertex.{Vertex}
use Rattle.slot_map.specs.Slots.{put}
use Rattle.bench_words.specs.Store.{node_at, interface_at, store_node, map_at, store_map, set_speed}
use Rattle.bench_words.proofs.Laws.{Good, good_interface}
use Rattle.bench_words.proofs.Maps.{map_same, map_other, store_map_interface, store_map_node}
use Rattle.bench_words.specs.declared.Node.{Node}
use Rattle.bench_words.specs.declared.Interface.{Interface}
use Rattle.ledger_spec.specs.Bench.{Handle}
use Rattle.ledger_spec.specs.Deeds.{remove_blossom}
use Rattle.bench_views.specs.Records.{Steady, no_node}
use Rattle.bench_views.specs.View.{view, view_in, sum_up}
use Rattle.bench_views.specs.Canon.{walk, Seated, Alone, Canon}
use Rattle.bench_views.specs.Fit.{Fit, Done}
use Rattle.bench_views.proofs.Rings.{Ringed}
use Rattle.bench_views.proofs.Codes.{coded_map}
use Rattle.bench_views.proofs.Maps.{held_absent, mapped_put}
use Rattle.deed_nodes.specs.Steps.{no_seat, remarked, paced}
use Rattle.deed_nodes.proofs.Stores.{put_next, put_unit, put_unit_here, put_unit_there, put_node_here, put_node_there, put_map, put_steady, put_coded, map_next, map_steady}
use Rattle.deed_nodes.proofs.Keeps.{modes_kept, not_blossom, ringed_walk, Intact, intact_chain, intact_seat, halves_kept}
use Rattle.deed_circles.proofs.Rounds.{Among, yes_at, not_at, among, Head, view_interfaces, pacing, pacing_here, pacing_else, pacing_part, turn_off, turn_head, turn_done}
use Rattle.deed_circles.proofs.Blossoming.{not_inside}
use Rattle.deed_circles.proofs.Freeing.{Expandable, Freeing, freeing, f₁, m₁, at₁, member, apart, not_top, not_member}
use Rattle.deed_circles.proofs.Gone.{s₁, A₁, to₁, gone_here, gone_else, freed_view}

not_defect : {c : Class} {v : Vertex} → c ≡ Absent → c ≡ Defect v → ⊥
not_defect {v = v} p q = let z : Absent ≡ Defect v = sym p ∙ q in let z2 : ◌≡◌ {A = ℕ} 0 1 = cc in omega arith

good_none : Good no_node
good_none = record { serial = omega arith; class = tt; parent = tt; left = (omega arith, omega arith, omega arith); right = (omega arith, omega arith, omega arith) }

module _ (b : List ℕ) (t : ℕ) (h : Handle) (F : Fit b) (X : Expandable b t h) (b₁ : List ℕ) (p : ℕ) (G : Freeing b (f₁ b t h F X) b₁ p (m₁ b t h F X)) where
  abbrev k : ℕ
  k = h.unit * 64 + h.slot

  abbrev at : ℕ → ℕ
  at = at₁ b t h F X

  abbrev m : ℕ
  m = m₁ b t h F X

  abbrev T : ℕ → ℕ
  T i = sum_up 8 (interface_at b) (at i / 64)

  abbrev s : ℕ
  s = s₁ b t h F X + m

  abbrev c₂ : List ℕ
  c₂ = paced (store_node b₁ k no_node) t s

  -- and its bit taken out
  abbrev w₂ : ℕ
  w₂ = put (map_at c₂ h.unit) h.slot false

  abbrev b₂ : List ℕ
  b₂ = store_map c₂ h.unit w₂

  abbrev A₂ : ℕ → Node
  A₂ = node_at b₂

  lt : t < 8
  lt = X.root.low

  lk : k < 512
  lk = X.stands.low

  lu : h.unit < 8
  lu = X.stands.unit

  st₂ : Steady c₂
  st₂ = put_steady b₁ k no_node t s G.steady lk lt good_none

  -- ---- what stands where
  as_was : (j : ℕ) → A₂ j ≡ node_at c₂ j
  as_was = store_map_node c₂ h.unit w₂ st₂.len lu

  unit_was : (v : ℕ) → interface_at b₂ v ≡ interface_at c₂ v
  unit_was = store_map_interface c₂ h.unit w₂ st₂.len lu

  node_gone : A₂ k ≡ no_node
  node_gone = as_was k ∙ put_node_here b₁ k no_node t s G.steady lk lt good_none

  node_off : (j : ℕ) → j ≢ k → A₂ j ≡ freeing b (f₁ b t h F X) m j
  node_off j ne = as_was j ∙ put_node_there b₁ k no_node t s G.steady lk lt good_none j ne ∙ G.nodes j

  off_top : (i : ℕ) → i < m → at i ≢ k
  off_top i l = not_top b t h F X h.unit h.slot (at i) (member b t h F X i l)

  node_member : (i : ℕ) → i < m → A₂ (at i) ≡ remarked (node_at b (at i)) (T i) Growing no_seat
  node_member i l = node_off (at i) (off_top i l) ∙ turn_done at T Growing (λ j. no_seat) (node_at b) m (apart b t h F X) m i (omega arith) l

  node_old : (j : ℕ) → j ≢ k → ((i : ℕ) → i < m → j ≢ at i) → A₂ j ≡ node_at b j
  node_old j ne off = node_off j ne ∙ turn_off at T Growing (λ i. no_seat) (node_at b) m j off

  head : (j : ℕ) → j ≢ k → Head (A₂ j) (node_at b j)
  head j ne = subst (λ (n : Node). Head n (node_at b j)) (sym (node_off j ne)) (turn_head at T Growing (λ i. no_seat) (node_at b) m j)

  -- the same, the other way about: the blossom first, and then its members
  node_is : (j : ℕ) → A₂ j ≡ to₁ b t h F X m j
  node_is j = go (ℕ_discrete j k) (among at j m)
    where
      go : Dec (j ≡ k) → Among at j m → A₂ j ≡ to₁ b t h F X m j
      go (yes e) a = ap A₂ e ∙ node_gone ∙ sym (gone_here b t h F X) ∙ sym (turn_off at T Growing (λ i. no_seat) (A₁ b t h F X) m k (λ i l q. off_top i l (sym q))) ∙ ap (to₁ b t h F X m) (sym e)
      go (no ne) (yes_at i l e) =
          ap A₂ e ∙ node_member i l ∙ ap (λ (n : Node). remarked n (T i) Growing no_seat) (sym (gone_else b t h F X (at i) (off_top i l)))
          ∙ sym (turn_done at T Growing (λ i. no_seat) (A₁ b t h F X) m (apart b t h F X) m i (omega arith) l) ∙ ap (to₁ b t h F X m) (sym e)
      go (no ne) (not_at f) = node_old j ne f ∙ sym (turn_off at T Growing (λ i. no_seat) (A₁ b t h F X) m j f ∙ gone_else b t h F X j ne)

  part : {Y : Type 0} (φ : Interface → Y) → ((x : Interface) (z : ℕ) → φ (set_speed x z) ≡ φ x) → (v : ℕ) → v < 8 → φ (interface_at b₂ v) ≡ φ (interface_at b v)
  part φ e v lv = ap φ (unit_was v) ∙ put_unit b₁ k no_node t s G.steady lk lt good_none φ e v lv ∙ ap φ (G.interfaces v lv)

  maps_were : (v : ℕ) → v < 8 → map_at c₂ v ≡ map_at b v
  maps_were v lv = put_map b₁ k no_node t s G.steady lk lt good_none v lv ∙ G.maps v lv

  map_here : map_at b₂ h.unit ≡ put (map_at b h.unit) h.slot false
  map_here = map_same c₂ h.unit w₂ st₂.len lu ∙ ap (λ (w : ℕ). put w h.slot false) (maps_were h.unit lu)

  map_there : (v : ℕ) → v < 8 → v ≢ h.unit → map_at b₂ v ≡ map_at b v
  map_there v lv ne = map_other c₂ h.unit w₂ st₂.len lu v ne ∙ maps_were v lv

  interface_now : (v : ℕ) → v < 8 → interface_at b₂ v ≡ pacing (interface_at b) t s v
  interface_now v lv = unit_was v ∙ by_cases (ℕ_discrete v t)
      (λ (e : v ≡ t). rw e (put_unit_here b₁ k no_node t s G.steady lk lt good_none ∙ ap (λ (f : Interface). set_speed f s) (G.interfaces t lt) ∙ sym (pacing_here (interface_at b) t s)))
      (λ (ne : v ≡ t → ⊥). put_unit_there b₁ k no_node t s G.steady lk lt good_none v lv ne ∙ G.interfaces v lv ∙ sym (pacing_else (interface_at b) t s v ne))

  seen : view b₂ ≡ remove_blossom (view b) h
  seen =
      let A-is : A₂ ≡ to₁ b t h F X m = fun_ext node_is in
      ap₂ (λ (n : ℕ) (B : ℕ → Node). view_in n (interface_at b₂) B) (map_next c₂ h.unit w₂ lu st₂.len ∙ put_next b₁ k no_node t s G.steady lk lt good_none ∙ G.next) A-is
      ∙ view_interfaces (get_or b 0 0) (pacing (interface_at b) t s) (interface_at b₂) (to₁ b t h F X m) (λ v lv. rw (pacing_part (interface_at b) t s (λ x. x.parent) (λ x z. refl) v) (good_interface b v)) interface_now
      ∙ freed_view b t h F X

  -- ---- the words stay canonical
  kept : (v r j : ℕ) → v * 64 + r ≢ k → Ringed b F.sewn v r j → A₂ j ≡ node_at b j
  kept v r j ne g = node_old j (not_top b t h F X v r j g) (λ i l. not_member b t h F X v r j i ne l g)

  intact : (j : ℕ) → j < 512 → (node_at b j).class ≡ Blossom → j ≢ k → Intact b b₂ F.canon j
  intact j lj e ne =
      let hd = head j ne in
      let back : j / 64 * 64 + j % 64 ≡ j = omega arith in
      record {
        low = lj;
        was = e;
        class = hd.class ∙ e;
        count = hd.count;
        first = hd.first;
        members = λ i l. kept (j / 64) (j % 64) (walk i (node_at b) (node_at b j).first) (λ q. ne (sym back ∙ q)) (ringed_walk b F.canon F.sewn j i lj e l);
      }

  canon₂ : Canon b₂
  canon₂ =
      record {
        steady = map_steady c₂ h.unit w₂ lu st₂;
        coded = coded_map c₂ h.unit w₂ st₂.len lu (put_coded b₁ k no_node t s G.steady lk lt good_none G.coded);
        modes = modes_kept b b₂ C (part (λ x. x.marks.plain) (λ x z. refl));
        whole = hv.0;
        both = hv.1;
        past = λ v r lv l q.
            let old : (interface_at b v).used ≤ r = omega (arith, q, part (λ x. x.used) (λ x z. refl) v lv) in
            node_old (v * 64 + r) (far v r l old) (apart_from v r l old) ∙ C.past v r lv l old;
        map = mapped_put b b₂ h.unit h.slot false C.map lu (omega (arith, X.stands.slot, C.steady.slots h.unit lu)) map_here map_there (held_absent (ap (λ (n : Node). n.class) node_gone)) (λ j lj q. (head j q).class);
        empty = λ j lj e. by_cases (ℕ_discrete j k)
            (λ (q : j ≡ k). ap A₂ q ∙ node_gone)
            (λ (q : j ≡ k → ⊥). empty_old j lj q e (among at j m));
        defect = λ j x lj e. by_cases (ℕ_discrete j k)
            (λ (q : j ≡ k). absurd (not_defect (ap (λ (i : ℕ). (A₂ i).class) q ∙ ap (λ (n : Node). n.class) node_gone) e))
            (λ (q : j ≡ k → ⊥). let hd = head j q in let d = C.defect j x lj (sym hd.class ∙ e) in (hd.first ∙ d.0, hd.count ∙ d.1));
        ring = λ j lj e. by_cases (ℕ_discrete j k)
            (λ (q : j ≡ k). absurd (not_blossom (ap (λ (i : ℕ). (A₂ i).class) q ∙ ap (λ (n : Node). n.class) node_gone) e))
            (λ (q : j ≡ k → ⊥). let hd = head j q in rw hd.count (C.ring j lj (sym hd.class ∙ e)));
        chain = λ j i lj e l. by_cases (ℕ_discrete j k)
            (λ (q : j ≡ k). absurd (not_blossom (ap (λ (i : ℕ). (A₂ i).class) q ∙ ap (λ (n : Node). n.class) node_gone) e))
            (λ (q : j ≡ k → ⊥). intact_chain b b₂ C j (intact j lj (sym (head j q).class ∙ e) q) i l);
        alone = λ j lj e. by_cases (ℕ_discrete j k)
            (λ (q : j ≡ k). rw (q, node_gone) (record { place = refl; next = refl; left = refl; right = refl }))
            (λ (q : j ≡ k → ⊥). alone_old j lj q e (among at j m));
        inside = λ j q lj e. by_cases (ℕ_discrete j k)
            (λ (z : j ≡ k). absurd (not_inside (ap (λ (i : ℕ). (A₂ i).parent) z ∙ ap (λ (n : Node). n.parent) node_gone) e))
            (λ (z : j ≡ k → ⊥). inside_old j q lj z e (among at j m));
      }
    where
      C : Canon b
      C = F.canon

      hv : ((v : ℕ) → v < 8 → (interface_at b₂ v).left ≡ 0 → (interface_at b₂ v).right ≡ 0) × ((v : ℕ) → v < 8 → ((interface_at b₂ v).left ≡ 0 → ⊥) → 0 < (interface_at b₂ v).right)
      hv = halves_kept b b₂ C (part (λ x. x.left) (λ x z. refl)) (part (λ x. x.right) (λ x z. refl))

      -- a slot that is not used is neither the blossom's nor a member's
      far : (v r : ℕ) → r < 64 → (interface_at b v).used ≤ r → v * 64 + r ≢ k
      far v r l q e =
          let few = C.steady.slots h.unit X.stands.unit in
          let same : v ≡ h.unit = omega (arith, X.stands.slot) in
          omega (arith, X.stands.slot, ap (λ (z : ℕ). (interface_at b z).used) same)

      apart_from : (v r : ℕ) → r < 64 → (interface_at b v).used ≤ r → (i : ℕ) → i < m → v * 64 + r ≢ at i
      apart_from v r l q i li e =
          let g = member b t h F X i li in
          let a : at i / 64 ≡ v = omega arith in
          let c : at i % 64 ≡ r = omega arith in
          omega (arith, g.slot, ap (λ (z : ℕ). (interface_at b z).used) a)

      empty_old : (j : ℕ) → j < 512 → j ≢ k → (A₂ j).class ≡ Absent → Among at j m → A₂ j ≡ no_node
      empty_old j lj q e (yes_at i l z) = absurd ((member b t h F X i l).present (ap (λ (x : ℕ). (node_at b x).class) (sym z) ∙ sym (head j q).class ∙ e))
      empty_old j lj q e (not_at f) = node_old j q f ∙ C.empty j lj (sym (head j q).class ∙ e)

      alone_old : (j : ℕ) → j < 512 → j ≢ k → (A₂ j).parent ≡ None → Among at j m → Alone (A₂ j)
      alone_old j lj q e (yes_at i l z) = rw (z, node_member i l) (record { place = refl; next = refl; left = refl; right = refl })
      alone_old j lj q e (not_at f) = subst Alone (sym (node_old j q f)) (C.alone j lj (ap (λ (n : Node). n.parent) (sym (node_old j q f)) ∙ e))

      inside_old : (j : ℕ) (q : Packed) → j < 512 → j ≢ k → (A₂ j).parent ≡ Some q → Among at j m → Seated b₂ j q
      inside_old j q lj z e (yes_at i l y) = absurd (not_inside (ap (λ (x : ℕ). (A₂ x).parent) y ∙ ap (λ (n : Node). n.parent) (node_member i l)) e)
      inside_old j q lj z e (not_at f) =
          let sd : Seated b j q = C.inside j q lj (ap (λ (n : Node). n.parent) (sym (node_old j z f)) ∙ e) in
          let ne : q.unit * 64 + q.slot ≢ k = λ y. f (node_at b j).place (omega (arith, sd.within, ap (λ (x : ℕ). (node_at b x).count) y)) (sym sd.seat ∙ ap (λ (x : ℕ). walk (node_at b j).place (node_at b) (node_at b x).first) y) in
          intact_seat b b₂ C j q sd (intact (q.unit * 64 + q.slot) (omega (arith, sd.unit, sd.slot, C.steady.slots q.unit sd.unit)) sd.ring ne) (node_old j z f)
          (omega (arith, part (λ x. x.used) (λ x y. refl) q.unit sd.unit))

  pub expanded : Done b₂ (remove_blossom (view b) h)
  expanded = record { canon = canon₂; seen = seen }
