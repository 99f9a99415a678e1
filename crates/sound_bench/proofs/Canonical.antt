-- Words that pass the test are canonical: a slot is blank, or coded and with a node whose class and place say the rest. Assumes nothing.
use Rattle.std.specs.Prelude.{None, Option, Some}
use Prim.Native.Nat.{ℕ, zero, suc, ◌+◌, ◌*◌, ◌<◌, ◌≤◌}
use mathlib.Core.Path.{◌≡◌, refl, sym, ◌∙◌, ap, subst}
use mathlib.Core.List.{List}
use native.Mathlib.Numerals.{add-one}
use native.Mathlib.Omega.{arith}
use lib.ListN.{length, get_or}
use Rattle.slot_map.specs.Slots.{bit_at}
use Rattle.slot_map.proofs.Maps.{is_low_map}
use Rattle.kinds.specs.declared.Class.{Class}
use Rattle.kinds.specs.declared.Class.TheVariants.{Absent, Blossom, Defect}
use Rattle.kinds.specs.declared.Handle.{Handle}
use Rattle.kinds.specs.declared.Vertex.{Vertex}
use Rattle.bench_words.specs.Store.{node_at, interface_at, map_at, base, node_words}
use Rattle.bench_words.specs.declared.Node.{Node}
use Rattle.bench_words.proofs.Laws.{GoodHandle, GoodParent, good_node}
use Rattle.ledger_spec.specs.Look.{climb}
use Rattle.ledger_spec.specs.Frame.{Frame}
use Rattle.bench_views.specs.Records.{Steady, no_node}
use Rattle.bench_views.specs.View.{view}
use Rattle.bench_views.specs.Canon.{walk, held_in, Seated, Alone, Coded, Canon}
use Rattle.bench_views.proofs.Maps.{held_absent, held_present}
use Rattle.sound_trees.proofs.Codings.{Coding, blank_none, blank_coded, link_words, flag_words, flag_engine, spare_words}
use Rattle.sound_trees.proofs.Framing.{Linked, interface_says, interface_coded, linked_frame, linked_steady}
use Rattle.sound_nodes.specs.Nodes.{handle_in}
use Rattle.sound_bench.proofs.Seeing.{by_place}
use Rattle.sound_bench.proofs.Nodes.{Ring, Seat, class_present, class_ring, class_single, parent_alone, parent_seat}
use Rattle.sound_bench.proofs.Parts.{Kept, Slot, blank, held, Parts}

absent_blossom : {c : Class} → c ≡ Absent → c ≡ Blossom → ⊥
absent_blossom e f = let z : ◌≡◌ {A = ℕ} 0 1 = cc in omega arith

absent_defect : {c : Class} {v : Vertex} → c ≡ Absent → c ≡ Defect v → ⊥
absent_defect e f = let z : ◌≡◌ {A = ℕ} 0 1 = cc in omega arith

outer_inside : {p : Option Handle} {q : Handle} → p ≡ None → p ≡ Some q → ⊥
outer_inside e f = let z : ◌≡◌ {A = ℕ} 0 1 = cc in omega arith

none_class : {n : Node} → n ≡ no_node → n.class ≡ Absent
none_class e = ap (λ (x : Node). x.class) e

none_parent : {n : Node} → n ≡ no_node → n.parent ≡ None
none_parent e = ap (λ (x : Node). x.parent) e

module _ (b : List ℕ) (P : Parts b) (len : length b ≡ 6273) where
  pub links : (u : ℕ) → u < 8 → Linked (interface_at b) u
  links u l = interface_says b u (P.interface u l)

  pub frame : Frame (view b)
  frame = linked_frame b links

  pub steady : Steady b
  steady = linked_steady b links len

  module _ (u s : ℕ) (lu : u < 8) (ls : s < 64) where
    abbrev n : Node
    n = node_at b (u * 64 + s)

    coding : Coding b (u * 64 + s)
    coding = go (P.slot u s lu ls)
      where
        go : Slot b u s → Coding b (u * 64 + s)
        go (blank m e) = blank_coded b (u * 64 + s) e
        go (held m l K) = K.coded

    past : (interface_at b u).used ≤ s → node_at b (u * 64 + s) ≡ no_node
    past h = go (P.slot u s lu ls)
      where
        go : Slot b u s → node_at b (u * 64 + s) ≡ no_node
        go (blank m e) = blank_none b (u * 64 + s) e
        go (held m l K) = absurd (omega (arith, l, h))

    empty : n.class ≡ Absent → n ≡ no_node
    empty q = go (P.slot u s lu ls)
      where
        go : Slot b u s → n ≡ no_node
        go (blank m e) = blank_none b (u * 64 + s) e
        go (held m l K) = absurd (class_present (node_at b) (get_or b 0 0) (handle_in u s n) n K.class q)

    -- its bit in the map is its own
    marked : bit_at (map_at b u) s ≡ held_in (node_at b) u s
    marked = go (P.slot u s lu ls)
      where
        go : Slot b u s → bit_at (map_at b u) s ≡ held_in (node_at b) u s
        go (blank m e) = m ∙ sym (held_absent (none_class (blank_none b (u * 64 + s) e)))
        go (held m l K) = m ∙ sym (held_present n.class (class_present (node_at b) (get_or b 0 0) (handle_in u s n) n K.class))

    -- a slot that is not empty is used, and its node keeps the rules
    pub present : (n.class ≡ Absent → ⊥) → (s < (interface_at b u).used) × Kept b u s
    present q = go (P.slot u s lu ls)
      where
        go : Slot b u s → (s < (interface_at b u).used) × Kept b u s
        go (blank m e) = absurd (q (none_class (blank_none b (u * 64 + s) e)))
        go (held m l K) = (l, K)

    pub ring_kept : n.class ≡ Blossom → Ring (node_at b) (get_or b 0 0) (handle_in u s n) n
    ring_kept q = class_ring (node_at b) (get_or b 0 0) (handle_in u s n) n (present (λ a. absent_blossom a q)).1.class q

    defect : (v : Vertex) → n.class ≡ Defect v → (n.first ≡ 0) × (n.count ≡ 0)
    defect v q = let r = class_single (node_at b) (get_or b 0 0) (handle_in u s n) n (present (λ a. absent_defect a q)).1.class v q in (r.1, r.2)

    ring : n.class ≡ Blossom → 0 < n.count
    ring q = positive n.count (ring_kept q).some
      where
        positive : (m : ℕ) → (m ≡ 0 → ⊥) → 0 < m
        positive zero z = absurd (z refl)
        positive (suc m) z = omega arith

    alone : n.parent ≡ None → Alone n
    alone q = go (P.slot u s lu ls)
      where
        go : Slot b u s → Alone n
        go (blank m e) = let z = blank_none b (u * 64 + s) e in record { place = ap (λ (x : Node). x.place) z; next = ap (λ (x : Node). x.next) z; left = ap (λ (x : Node). x.left) z; right = ap (λ (x : Node). x.right) z }
        go (held m l K) = parent_alone b (u * 64 + s) (climb 8 (view b) u) n K.parent q

    -- a member is used and has its seat
    pub seated : (q : Handle) → n.parent ≡ Some q → (s < (interface_at b u).used) × Kept b u s × Seat b (u * 64 + s) (climb 8 (view b) u) n q (node_at b (q.unit * 64 + q.slot))
    seated q e = go (P.slot u s lu ls)
      where
        go : Slot b u s → (s < (interface_at b u).used) × Kept b u s × Seat b (u * 64 + s) (climb 8 (view b) u) n q (node_at b (q.unit * 64 + q.slot))
        go (blank m z) = absurd (outer_inside (none_parent (blank_none b (u * 64 + s) z)) e)
        go (held m l K) = (l, K, parent_seat b (u * 64 + s) (climb 8 (view b) u) n K.parent q e)

    pub good_inside : (q : Handle) → n.parent ≡ Some q → GoodHandle q
    good_inside q e = subst GoodParent e (good_node b (u * 64 + s)).parent

  module _ (u s : ℕ) (lu : u < 8) (ls : s < 64) where
    inside : (q : Handle) → (node_at b (u * 64 + s)).parent ≡ Some q → Seated b (u * 64 + s) q
    unfolding walk
    inside q e =
        let g = good_inside u s lu ls q e in
        let S = (seated u s lu ls q e).2 in
        let p = present q.unit q.slot g.0 g.1 (λ a. absent_blossom a S.ring) in
        let R = ring_kept q.unit q.slot g.0 g.1 S.ring in
        record {
          unit = g.0;
          slot = p.0;
          ring = S.ring;
          within = S.within;
          seat = S.seat;
          last = λ h. ap (λ (k : ℕ). (node_at b k).next) (sym S.seat) ∙ ap (λ (i : ℕ). walk i (node_at b) (node_at b (q.unit * 64 + q.slot)).first) (sym (add-one (node_at b (u * 64 + s)).place) ∙ h) ∙ R.end;
        }

  coded : Coded b
  coded = record {
    spare = spare_words b (λ u l. (interface_coded b u (P.interface u l)).0);
    units = λ u l. link_words b u (interface_coded b u (P.interface u l)).1;
    marks = λ u l. flag_words b u (interface_coded b u (P.interface u l)).2;
    nodes = by_place (λ k. (j : ℕ) → j < 12 → get_or b (base k + (1 + j)) 0 ≡ get_or (node_words (node_at b k)) j 0) coding;
  }

  pub empty_slot : (k : ℕ) → k < 512 → (node_at b k).class ≡ Absent → node_at b k ≡ no_node
  empty_slot = by_place (λ k. (node_at b k).class ≡ Absent → node_at b k ≡ no_node) empty

  pub canon : Canon b
  canon = record {
    steady = steady;
    coded = coded;
    modes = λ u l. flag_engine b u (interface_coded b u (P.interface u l)).2;
    whole = λ u l. (links u l).none;
    both = λ u l z. ((links u l).both z).some;
    past = λ u s lu ls. past u s lu ls;
    map = λ u l. is_low_map (map_at b u) (held_in (node_at b) u) 64 (P.map u l) (λ s ls. marked u s l ls);
    empty = empty_slot;
    defect = λ k v l. by_place (λ k. (node_at b k).class ≡ Defect v → ((node_at b k).first ≡ 0) × ((node_at b k).count ≡ 0)) (λ u s lu ls. defect u s lu ls v) k l;
    ring = by_place (λ k. (node_at b k).class ≡ Blossom → 0 < (node_at b k).count) ring;
    chain = λ k i l. by_place (λ k. (node_at b k).class ≡ Blossom → i < (node_at b k).count → (node_at b (walk i (node_at b) (node_at b k).first)).place ≡ i) (λ u s lu ls q li. ((ring_kept u s lu ls q).member i li).place) k l;
    alone = by_place (λ k. (node_at b k).parent ≡ None → Alone (node_at b k)) alone;
    inside = λ k q l. by_place (λ k. (node_at b k).parent ≡ Some q → Seated b k q) (λ u s lu ls. inside u s lu ls q) k l;
  }
