-- The words of a sound bench pass the test: each part of it from the fact of the same thing. Assumes nothing.
use Rattle.std.specs.Prelude.{None, Option, Some}
use Prim.Native.Nat.{ℕ, zero, suc, ◌+◌, ◌-◌, ◌*◌, ◌/◌, ◌%◌, ◌<◌, ◌≤◌}
use mathlib.Core.Path.{◌≡◌, refl, sym, ◌∙◌, ap, subst}
use mathlib.Core.Bool.{Bool, true, not, ◌&&◌, ◌||◌, or-true}
use mathlib.Core.List.{List}
use native.Mathlib.Decide.{ℕ_discrete, dec_lt}
use native.Mathlib.Omega.{arith}
use lib.Dec.{eqb}
use lib.ListN.{length, get_or}
use lib.IntN.{nat_abs}
use borrow.Author.Tests.{eq-eqb, ne_eqb, le-leb}
use Rattle.kinds.specs.declared.Class.{Class}
use Rattle.kinds.specs.declared.Class.TheVariants.{Absent, Blossom, Defect}
use Rattle.kinds.specs.declared.GrowState.{GrowState}
use Rattle.kinds.specs.declared.GrowState.TheVariants.{Grow, Stay, Shrink}
use Rattle.kinds.specs.declared.Handle.{Handle as Packed}
use Rattle.slot_map.specs.Slots.{bit_at}
use Rattle.slot_map.proofs.Maps.{map_lt, bit_map}
use Rattle.bench_words.specs.Store.{node_at, interface_at, map_at}
use Rattle.bench_words.specs.declared.Node.{Node}
use Rattle.ledger_spec.specs.Bench.{Member, stays, defect, blossom}
use Rattle.ledger_spec.specs.Bench as plain
use Rattle.ledger_spec.specs.Look.{interface, slot_of, climb, node_named}
use Rattle.ledger_spec.specs.Named.{handle_named, parent_named, state_named}
use Rattle.ledger_spec.specs.Deeds.{size_of}
use Rattle.ledger_spec.specs.Knit.{nodes, Up as Above}
use Rattle.ledger_spec.specs.Facts.{W, Circle, Sound}
use Rattle.ledger_spec.proofs.Lists.{both_true}
use Rattle.ledger_spec.proofs.Knit.{some_eq}
use Rattle.ledger_spec.proofs.Tops.{top_root, below}
use Rattle.ledger_spec.proofs.Passed.{has_node}
use Rattle.bench_views.specs.View.{up_seen, over, sum_up, value_by, circle_of, handle_at, member_at, view}
use Rattle.bench_views.specs.Canon.{walk, held_in, Seated, Canon}
use Rattle.bench_views.proofs.Maps.{held_absent, held_present}
use Rattle.bench_views.specs.Fit.{SoundWords, Fit}
use Rattle.bench_views.proofs.Views.{interface_in_lem, view_next, view_slot, view_parent}
use Rattle.bench_views.proofs.Rings.{slot_held, Ringed, ringed}
use Rattle.bench_views.proofs.Ranges.{off_range, ranged}
use Rattle.bench_views.proofs.Fits.{fit_of}
use Rattle.sound_trees.specs.Below.{all_to, between}
use Rattle.sound_trees.proofs.Belows.{all_of}
use Rattle.sound_trees.proofs.Codings.{none_blank, words_link, words_flag, words_spare}
use Rattle.sound_trees.specs.Width.{width_of}
use Rattle.sound_trees.proofs.Framing.{interface_holds, frame_linked}
use Rattle.sound_trees.proofs.Widths.{width_is}
use Rattle.sound_rings.specs.Rings.{class_test}
use Rattle.sound_seats.specs.Seats.{parent_test}
use Rattle.sound_nodes.specs.Nodes.{near_test, handle_in}
use Rattle.sound_tops.specs.Tops.{pace_of, top_in, top_test}
use Rattle.sound_serials.specs.Different.{serial_at, unlike, once_test}
use Rattle.sound_floors.proofs.Level.{floors_hold}
use Rattle.sound_bench.proofs.Circles.{length_follow, in_follow, in_nodes, sizes_follow}
use Rattle.sound_bench.proofs.Speeds.{off_inj, off_both_sides, under_pace}
use Rattle.sound_bench.proofs.Seeing.{shown_as, seen, see_ring, see_single}
use Rattle.sound_bench.proofs.Nodes as nodes-in
use Rattle.sound_bench.proofs.Nodes.{ring_class, single_class, alone_parent, seat_parent, near_holds}
use Rattle.sound_bench.proofs.Parts.{Kept, Slot, blank, held, Parts}
use Rattle.sound_bench.proofs.Tested.{of_shown, parent_named_lem}

stay_of : (g : GrowState) → state_named g ≡ stays → g ≡ Stay
stay_of Grow e = absurd (let z : ◌≡◌ {A = ℕ} 0 1 = cc in omega arith)
stay_of Stay e = refl
stay_of Shrink e = absurd (let z : ◌≡◌ {A = ℕ} 0 1 = cc in omega arith)

packed_is : (q : Packed) (u s : ℕ) (n : Node) → handle_named q ≡ record { unit = u; slot = s; serial = n.serial.0 } → q ≡ handle_in u s n
packed_is q u s n e = λ i. record { unit = (e i).unit; slot = (e i).slot; serial = record { 0 = (e i).serial } }

module _ (b : List ℕ) (Z : SoundWords b) where
  abbrev C : Canon b
  C = Z.canon

  abbrev A : ℕ → Node
  A = node_at b

  abbrev N : ℕ
  N = get_or b 0 0

  F : Fit b
  F = fit_of b Z

  S : Sound (view b)
  S = F.facts

  next_is : (view b).next ≡ N
  next_is = view_next (get_or b 0 0) (interface_at b) (node_at b)

  place_low : (u s : ℕ) → u < 8 → s < 64 → u * 64 + s < 512
  place_low u s lu ls = omega arith

  -- ---- a node that is present stands in a used slot
  used_slot : (u s : ℕ) → u < 8 → s < 64 → ((A (u * 64 + s)).class ≡ Absent → ⊥) → s < (interface_at b u).used
  used_slot u s lu ls p = go (dec_lt s (interface_at b u).used)
    where
      go : Dec (s < (interface_at b u).used) → s < (interface_at b u).used
      go (yes l) = l
      go (no l) = absurd (p (ap (λ (x : Node). x.class) (C.past u s lu ls (omega (arith, l)))))

  -- ---- a circle
  module _ (u s : ℕ) (lu : u < 8) (ls : s < 64) (used : s < (interface_at b u).used) (rung : (A (u * 64 + s)).class ≡ Blossom) where
    abbrev c : Node
    c = A (u * 64 + s)

    stands : slot_of (view b) u s ≡ Some (shown_as b u s (blossom (circle_of A (u * 64 + s))))
    stands = see_ring b u s lu used rung

    circle : Circle (view b) (shown_as b u s (blossom (circle_of A (u * 64 + s)))) (circle_of A (u * 64 + s))
    circle = (S.rings u s (shown_as b u s (blossom (circle_of A (u * 64 + s)))) stands).circle (circle_of A (u * 64 + s)) refl

    long : length (circle_of A (u * 64 + s)) ≡ c.count
    long = length_follow c.count A c.first

    few : c.count ≤ 64
    few = omega (arith, long, circle.most)

    module _ (i : ℕ) (li : i < c.count) where
      abbrev p : ℕ
      p = walk i A c.first

      G : Ringed b S.sewn u s p
      G = ringed b S.sewn u s lu used rung p (in_nodes c.count i A c.first li)

      back : p / 64 * 64 + p % 64 ≡ p
      back = omega arith

      size_of_lem : G.node.size ≡ (A p).size
      size_of_lem = of_shown b (p / 64) (p % 64) (λ x. x.size) (A (p / 64 * 64 + p % 64)).size (λ d. refl) G.node (seen b (p / 64) (p % 64) G.node G.stands).shown ∙ ap (λ (x : ℕ). (A x).size) back

      size_is : size_of (node_named (view b) (handle_at A p)) ≡ (A p).size
      size_is = ap size_of (has_node (view b) (handle_at A p) G.node (record { stands = G.stands; serial = G.own })) ∙ size_of_lem

      inside : (A p).parent ≡ Some (handle_in u s c)
      inside = let r = parent_named_lem (A p).parent _ G.parent in r.1 ∙ ap Some (packed_is r.0 u s c r.2)

      low : p < 512
      low = omega (arith, G.unit)

      member : nodes-in.Member A N (handle_in u s c) c.first i
      member =
          let t = circle.touching (member_at A p) (in_follow c.count i A c.first li) in
          record {
            low = low;
            back = inside;
            place = C.chain (u * 64 + s) i (place_low u s lu ls) rung li;
            small = omega (arith, size_of_lem, F.size (p / 64) (p % 64) G.node G.stands);
            left = omega (arith, t.0.serial, next_is);
            right = omega (arith, t.1.serial, next_is);
          }

      last : suc i ≡ c.count → (A p).next ≡ 0
      last e = (C.inside p (handle_in u s c) low inside).last (omega (arith, C.chain (u * 64 + s) i (place_low u s lu ls) rung li, e))

    end : walk c.count A c.first ≡ 0
    unfolding walk
    end = go c.count refl
      where
        go : (m : ℕ) → c.count ≡ m → walk c.count A c.first ≡ 0
        go zero e = absurd (omega (arith, e, C.ring (u * 64 + s) (place_low u s lu ls) rung))
        go (suc m) e = ap (λ (x : ℕ). walk x A c.first) e ∙ last m (omega (arith, e)) (sym e)

    pub ring_held : nodes-in.Ring A N (handle_in u s c) c
    ring_held = record {
      some = λ e. omega (arith, e, C.ring (u * 64 + s) (place_low u s lu ls) rung);
      few = few;
      member = member;
      size = circle.size ∙ sizes_follow (view b) c.count A c.first size_is;
      end = end;
    }

  -- ---- a node
  module _ (u s : ℕ) (lu : u < 8) (ls : s < 64) (used : s < (interface_at b u).used) (d : plain.Class) (stands : slot_of (view b) u s ≡ Some (shown_as b u s d)) (present : (A (u * 64 + s)).class ≡ Absent → ⊥) where
    abbrev n : Node
    n = A (u * 64 + s)

    abbrev t : ℕ
    t = sum_up 8 (interface_at b) u

    abbrev i : ℕ
    i = climb 8 (view b) u

    near : near_test n.state n.bias (sum_up 8 (interface_at b) u) (width_of b (climb 8 (view b) u)) ≡ true
    near =
        let w = width_is b S.frame i (below (view b) S.frame 8 u lu) (top_root (view b) S.frame u) in
        let r = ranged b C.steady F.within u s lu used present in
        let x = off_range 1152921504606846975 (value_by n.state n.bias t) (W (view b) i) (S.values u s (shown_as b u s d) stands) in
        near_holds n.state n.bias t (width_of b i) r.least r.most (omega (arith, x.0, w)) (omega (arith, x.1, w))

    seat : (q : Packed) → n.parent ≡ Some q → nodes-in.Seat b (u * 64 + s) (climb 8 (view b) u) n q (A (q.unit * 64 + q.slot))
    seat q e = record {
      few = few q.unit q.slot T.unit low T.slot T.ring;
      within = T.within;
      stays = stay_of n.state U.still;
      older = U.older;
      serial = ap (λ (x : plain.Node). x.serial) (some_eq (see_ring b q.unit q.slot T.unit T.slot T.ring) U.has.stands) ∙ U.has.serial;
      ring = T.ring;
      near = sym U.near;
      seat = T.seat;
    }
      where
        T : Seated b (u * 64 + s) q
        T = C.inside (u * 64 + s) q (place_low u s lu ls) e

        low : q.slot < 64
        low = omega (arith, T.slot, C.steady.slots q.unit T.unit)

        U : Above (slot_of (view b)) (climb 8 (view b)) u s (shown_as b u s d) (handle_named q)
        U = S.sewn.knit.up u s (shown_as b u s d) (handle_named q) stands (ap parent_named e)

    parent : parent_test b (u * 64 + s) (climb 8 (view b) u) n ≡ true
    parent = go n.parent refl
      where
        go : (p : Option Packed) → n.parent ≡ p → parent_test b (u * 64 + s) (climb 8 (view b) u) n ≡ true
        go None e = alone_parent b (u * 64 + s) i n e (C.alone (u * 64 + s) (place_low u s lu ls) e)
        go (Some q) e = seat_parent b (u * 64 + s) i n q e (seat q e)

    kept : class_test A N (handle_in u s n) n ≡ true → Kept b u s
    kept k =
        let l = S.sewn.knit.low u s (shown_as b u s d) stands in
        record { coded = C.coded.nodes (u * 64 + s) (place_low u s lu ls); least = l.0; below = omega (arith, l.1, next_is); near = near; class = k; parent = parent }

  slot : (u s : ℕ) → u < 8 → s < 64 → Slot b u s
  slot u s lu ls = go (A (u * 64 + s)).class refl
    where
      low : u * 64 + s < 512
      low = place_low u s lu ls

      bit : bit_at (map_at b u) s ≡ held_in A u s
      bit = ap (λ (w : ℕ). bit_at w s) (C.map u lu) ∙ bit_map (held_in A u) 64 s ls

      go : (k : Class) → (A (u * 64 + s)).class ≡ k → Slot b u s
      go Absent e = blank (bit ∙ held_absent e) (none_blank b (u * 64 + s) (C.coded.nodes (u * 64 + s) low) (C.empty (u * 64 + s) low e))
      go Blossom e =
          let p : (A (u * 64 + s)).class ≡ Absent → ⊥ = λ a. let z : Absent ≡ Blossom = sym a ∙ e in let z2 : ◌≡◌ {A = ℕ} 0 1 = cc in omega arith in
          let o = used_slot u s lu ls p in
          held (bit ∙ held_present (A (u * 64 + s)).class p) o (kept u s lu ls o (blossom (circle_of A (u * 64 + s))) (see_ring b u s lu o e) p (ring_class A N (handle_in u s (A (u * 64 + s))) (A (u * 64 + s)) e (ring_held u s lu ls o e)))
      go (Defect v) e =
          let p : (A (u * 64 + s)).class ≡ Absent → ⊥ = λ a. let z : Absent ≡ Defect v = sym a ∙ e in let z2 : ◌≡◌ {A = ℕ} 0 1 = cc in omega arith in
          let o = used_slot u s lu ls p in
          let f = C.defect (u * 64 + s) v low e in
          held (bit ∙ held_present (A (u * 64 + s)).class p) o (kept u s lu ls o (defect v.0) (see_single b u s lu o v e) p (single_class A N (handle_in u s (A (u * 64 + s))) (A (u * 64 + s)) v e ((S.rings u s (shown_as b u s (defect v.0)) (see_single b u s lu o v e)).single v.0 refl) f.0 f.1))

  -- ---- tops
  top : (j : ℕ) → j < 8 → top_test b j ≡ true
  unfolding top_in
  top j l = go (interface_at b j).parent refl
    where
      rule : Option ℕ → Bool
      rule x = over x (between 4611686018427387904 (width_of b j * 512) (interface_at b j).sum && eqb (interface_at b j).speed (512 + pace_of b j)) (λ p. true)

      go : (p : Option ℕ) → (interface_at b j).parent ≡ p → rule (interface_at b j).parent ≡ true
      go (Some p) e = ap rule e
      go None e =
          let free = view_parent (get_or b 0 0) (interface_at b) (node_at b) j l ∙ ap up_seen e in
          let w = width_is b S.frame j l free in
          let x = off_range 4611686018427387903 (interface_at b j).sum (512 * W (view b) j) (subst (λ (f : plain.Interface). nat_abs f.sum ≤ 512 * W (view b) j) (interface_in_lem (get_or b 0 0) (interface_at b) (node_at b) j l) (S.sums j l free)) in
          let m : pace_of b j + 512 ≡ 512 + pace_of b j = omega arith in
          let v = off_inj 1024 (interface_at b j).speed (pace_of b j + 512) (sym (ap (λ (f : plain.Interface). f.speed) (interface_in_lem (get_or b 0 0) (interface_at b) (node_at b) j l)) ∙ S.speeds j l free ∙ under_pace b C.steady.slots C.empty j ∙ sym (off_both_sides 512 512 (pace_of b j))) in
          ap rule e ∙ both_true (both_true (le-leb (4611686018427387904 - width_of b j * 512) (interface_at b j).sum (omega (arith, x.0, w))) (le-leb (interface_at b j).sum (4611686018427387904 + width_of b j * 512) (omega (arith, x.1, w)))) (eq-eqb (interface_at b j).speed (512 + pace_of b j) (v ∙ m))

  -- ---- serials
  standing : (k : ℕ) → k < 512 → (serial_at b k ≡ 0 → ⊥) → (m : plain.Node) × (slot_of (view b) (k / 64) (k % 64) ≡ Some m) × (m.serial ≡ serial_at b k)
  standing k l z =
      let back : k / 64 * 64 + k % 64 ≡ k = omega arith in
      let p : (A (k / 64 * 64 + k % 64)).class ≡ Absent → ⊥ = λ a. z (ap (λ (x : Node). x.serial.0) (C.empty k l (ap (λ (x : ℕ). (A x).class) (sym back) ∙ a))) in
      let o = used_slot (k / 64) (k % 64) (omega arith) (omega arith) p in
      let h = slot_held (A (k / 64 * 64 + k % 64)) (sum_up 8 (interface_at b) (k / 64)) (circle_of A (k / 64 * 64 + k % 64)) p in
      (shown_as b (k / 64) (k % 64) h.0, view_slot (get_or b 0 0) (interface_at b) (node_at b) (k / 64) (k % 64) (omega arith) o ∙ h.1, ap (λ (x : ℕ). (A x).serial.0) back)

  once_held : (k : ℕ) → k < 512 → once_test b k ≡ true
  unfolding once_test
  once_held k l = go (ℕ_discrete (serial_at b k) 0)
    where
      go : Dec (serial_at b k ≡ 0) → once_test b k ≡ true
      go (yes e) = ap (λ (x : Bool). x || all_to (unlike b (serial_at b k)) k) (eq-eqb (serial_at b k) 0 e)
      go (no z) = ap (λ (x : Bool). eqb (serial_at b k) 0 || x) (all_of (unlike b (serial_at b k)) k (λ j lj. ap not (ne_eqb (serial_at b j) (serial_at b k) (λ e. apart j lj e)))) ∙ or-true (eqb (serial_at b k) 0)
        where
          apart : (j : ℕ) → j < k → serial_at b j ≡ serial_at b k → ⊥
          apart j lj e =
              let x = standing j (omega arith) (λ q. z (sym e ∙ q)) in
              let y = standing k l z in
              let o = S.sewn.knit.one (j / 64) (j % 64) (k / 64) (k % 64) x.0 y.0 x.1 y.1 (x.2 ∙ e ∙ sym y.2) in
              omega (arith, o.0, o.1, lj)

  pub passing : Parts b
  passing = record {
    some = λ e. omega (arith, e, F.begun);
    worn = F.next;
    interface = λ u l. interface_holds b u (words_spare b C.coded.spare u l) (words_link b u (C.coded.units u l 4 (omega arith))) (words_flag b u (C.coded.marks u l) (C.coded.marks 0 (omega arith)) (C.modes u l)) (frame_linked b C.steady S.frame C.whole C.both u l);
    map = λ u l. subst (λ (w : ℕ). w < 18446744073709551616) (sym (C.map u l)) (map_lt (held_in A u) 64);
    slot = slot;
    top = top;
    once = once_held;
    floor = floors_hold b S.floors;
  }
