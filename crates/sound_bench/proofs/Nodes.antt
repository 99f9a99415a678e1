-- The tests of a node and the facts that they say, both ways: its class and circle, its parent and place, its value. Assumes nothing.
use Rattle.std.specs.Prelude.{None, Option, Some}
use Prim.Native.Nat.{ℕ, ◌+◌, ◌-◌, ◌*◌, ◌<◌, ◌≤◌}
use mathlib.Core.Path.{◌≡◌, refl, sym, ◌∙◌, ap}
use mathlib.Core.Bool.{true, not, ◌&&◌, true≢false}
use mathlib.Core.List.{List}
use lib.Dec.{eqb, leb, ltb}
use borrow.Author.Tests.{eqb-true, eqb-false, eq-eqb, ne_eqb, leb-true, le-leb, ltb-true, lt-ltb, not-true}
use Rattle.kinds.specs.Names.{same_code, no_code}
use Rattle.kinds.specs.States.{blossom_of}
use Rattle.kinds.specs.declared.GrowState.{GrowState}
use Rattle.kinds.specs.declared.GrowState.TheVariants.{Grow, Stay, Shrink}
use Rattle.kinds.specs.declared.Class.{Class}
use Rattle.kinds.specs.declared.Class.TheVariants.{Absent, Blossom, Defect}
use Rattle.kinds.specs.declared.Handle.{Handle}
use Rattle.kinds.specs.declared.Vertex.{Vertex}
use Rattle.bench_words.specs.Store.{node_at}
use Rattle.bench_words.specs.declared.Node.{Node}
use Rattle.ledger_spec.specs.Look.{climb}
use Rattle.ledger_spec.proofs.Lists.{and_true, both_true}
use Rattle.bench_views.specs.View.{value_by, view}
use Rattle.bench_views.specs.Canon.{walk, Alone}
use Rattle.sound_trees.specs.Below.{all_to, sum_to}
use Rattle.sound_trees.proofs.Belows.{all_each, all_of}
use Rattle.sound_rings.specs.Rings.{is_inside, member_of, member_test, size_in, ring_test, class_test}
use Rattle.sound_seats.specs.Seats.{is_stay, alone_test, seat_in, parent_test}
use Rattle.sound_nodes.specs.Nodes.{near_test}

same_packed : (g h : Handle) → same_code g h ≡ true → g ≡ h
same_packed g h e =
    let x = and_true (eqb g.unit h.unit) _ e in
    let y = and_true (eqb g.slot h.slot) _ x.1 in
    λ i. record { unit = eqb-true g.unit h.unit x.0 i; slot = eqb-true g.slot h.slot y.0 i; serial = record { 0 = eqb-true g.serial.0 h.serial.0 y.1 i } }

same_self : (g h : Handle) → g ≡ h → same_code g h ≡ true
same_self g h e = ap (same_code g) (sym e) ∙ both_true (eq-eqb g.unit g.unit refl) (both_true (eq-eqb g.slot g.slot refl) (eq-eqb g.serial.0 g.serial.0 refl))

inside_is : (p : Option Handle) (h : Handle) → is_inside p h ≡ true → p ≡ Some h
inside_is None h e = absurd (true≢false (sym e))
inside_is (Some q) h e = ap Some (same_packed q h e)

is_inside_lem : (p : Option Handle) (h : Handle) → p ≡ Some h → is_inside p h ≡ true
is_inside_lem p h e = ap (λ (x : Option Handle). is_inside x h) e ∙ same_self h h refl

-- ---- a circle
pub record Member (A : ℕ → Node) (next : ℕ) (h : Handle) (first i : ℕ) : Type 0 where
  pub low : walk i A first < 512
  pub back : (A (walk i A first)).parent ≡ Some h
  pub place : (A (walk i A first)).place ≡ i
  pub small : (A (walk i A first)).size ≤ 512
  pub left : (A (walk i A first)).left.serial.0 < next
  pub right : (A (walk i A first)).right.serial.0 < next

pub record Ring (A : ℕ → Node) (next : ℕ) (h : Handle) (n : Node) : Type 0 where
  pub some : n.count ≡ 0 → ⊥
  pub few : n.count ≤ 64
  pub member : (i : ℕ) → i < n.count → Member A next h n.first i
  pub size : n.size ≡ sum_to (size_in A n.first) n.count
  pub end : walk n.count A n.first ≡ 0

module _ (A : ℕ → Node) (next : ℕ) (h : Handle) where
  member_says : (first i : ℕ) → member_test A next h first i ≡ true → Member A next h first i
  unfolding member_test member_of
  member_says first i e =
      let p = walk i A first in
      let x = and_true (ltb p 512) _ e in
      let y = and_true (is_inside (A p).parent h) _ x.1 in
      let z = and_true (eqb (A p).place i) _ y.1 in
      let w = and_true (leb (A p).size 512) _ z.1 in
      let v = and_true (ltb (A p).left.serial.0 next) (ltb (A p).right.serial.0 next) w.1 in
      record {
        low = ltb-true p 512 x.0;
        back = inside_is (A p).parent h y.0;
        place = eqb-true (A p).place i z.0;
        small = leb-true (A p).size 512 w.0;
        left = ltb-true (A p).left.serial.0 next v.0;
        right = ltb-true (A p).right.serial.0 next v.1;
      }

  member_holds : (first i : ℕ) → Member A next h first i → member_test A next h first i ≡ true
  unfolding member_test member_of
  member_holds first i M =
      both_true (lt-ltb (walk i A first) 512 M.low) (both_true (is_inside_lem (A (walk i A first)).parent h M.back) (both_true (eq-eqb (A (walk i A first)).place i M.place)
      (both_true (le-leb (A (walk i A first)).size 512 M.small) (both_true (lt-ltb (A (walk i A first)).left.serial.0 next M.left) (lt-ltb (A (walk i A first)).right.serial.0 next M.right)))))

  ring_says : (n : Node) → ring_test A next h n ≡ true → Ring A next h n
  unfolding ring_test
  ring_says n e =
      let x = and_true (not (eqb n.count 0)) _ e in
      let y = and_true (leb n.count 64) _ x.1 in
      let z = and_true (all_to (member_test A next h n.first) n.count) _ y.1 in
      let w = and_true (eqb n.size (sum_to (size_in A n.first) n.count)) (eqb (walk n.count A n.first) 0) z.1 in
      record {
        some = eqb-false n.count 0 (not-true (eqb n.count 0) x.0);
        few = leb-true n.count 64 y.0;
        member = λ i l. member_says n.first i (all_each (member_test A next h n.first) n.count z.0 i l);
        size = eqb-true n.size _ w.0;
        end = eqb-true (walk n.count A n.first) 0 w.1;
      }

  ring_holds : (n : Node) → Ring A next h n → ring_test A next h n ≡ true
  unfolding ring_test
  ring_holds n R =
      both_true (ap not (ne_eqb n.count 0 R.some)) (both_true (le-leb n.count 64 R.few) (both_true (all_of (member_test A next h n.first) n.count (λ i l. member_holds n.first i (R.member i l)))
      (both_true (eq-eqb n.size _ R.size) (eq-eqb (walk n.count A n.first) 0 R.end))))

  -- ---- a class
  module _ (n : Node) where
    pub class_present : class_test A next h n ≡ true → n.class ≡ Absent → ⊥
    unfolding class_test
    class_present e q = true≢false (sym (rw q at e))

    pub class_ring : class_test A next h n ≡ true → n.class ≡ Blossom → Ring A next h n
    unfolding class_test ring_test
    class_ring e q = ring_says n (rw q at e)

    pub class_single : class_test A next h n ≡ true → (v : Vertex) → n.class ≡ Defect v → (n.size ≡ 1) × (n.first ≡ 0) × (n.count ≡ 0)
    unfolding class_test
    class_single e v q =
        let x = and_true (eqb n.size 1) (eqb n.first 0 && eqb n.count 0) (rw q at e) in
        let y = and_true (eqb n.first 0) (eqb n.count 0) x.1 in
        (eqb-true n.size 1 x.0, eqb-true n.first 0 y.0, eqb-true n.count 0 y.1)

    pub ring_class : n.class ≡ Blossom → Ring A next h n → class_test A next h n ≡ true
    unfolding class_test ring_test
    ring_class q R = rw q (ring_holds n R)

    pub single_class : (v : Vertex) → n.class ≡ Defect v → n.size ≡ 1 → n.first ≡ 0 → n.count ≡ 0 → class_test A next h n ≡ true
    unfolding class_test
    single_class v q x y z = rw q (both_true (eq-eqb n.size 1 x) (both_true (eq-eqb n.first 0 y) (eq-eqb n.count 0 z)))

-- ---- a place
pub record Seat (b : List ℕ) (k t : ℕ) (n : Node) (q : Handle) (m : Node) : Type 0 where
  pub few : m.count ≤ 64
  pub within : n.place < m.count
  pub stays : n.state ≡ Stay
  pub older : n.serial.0 < q.serial.0
  pub serial : m.serial.0 ≡ q.serial.0
  pub ring : m.class ≡ Blossom
  pub near : climb 8 (view b) q.unit ≡ t
  pub seat : walk n.place (node_at b) m.first ≡ k

stay_is : (g : GrowState) → is_stay g ≡ true → g ≡ Stay
stay_is Grow e = absurd (true≢false (sym e))
stay_is Stay e = refl
stay_is Shrink e = absurd (true≢false (sym e))

blossom_is : (c : Class) → blossom_of c ≡ true → c ≡ Blossom
blossom_is Absent e = absurd (true≢false (sym e))
blossom_is Blossom e = refl
blossom_is (Defect v) e = absurd (true≢false (sym e))

seat_says : (b : List ℕ) (k t : ℕ) (n : Node) (q : Handle) (m : Node) → seat_in b k t n q m ≡ true → Seat b k t n q m
unfolding seat_in
seat_says b k t n q m e =
    let a = and_true (leb m.count 64) _ e in
    let c = and_true (ltb n.place m.count) _ a.1 in
    let d = and_true (is_stay n.state && ltb n.serial.0 q.serial.0) _ c.1 in
    let f = and_true (is_stay n.state) (ltb n.serial.0 q.serial.0) d.0 in
    let g = and_true (eqb m.serial.0 q.serial.0 && blossom_of m.class) _ d.1 in
    let h = and_true (eqb m.serial.0 q.serial.0) (blossom_of m.class) g.0 in
    let j = and_true (eqb (climb 8 (view b) q.unit) t) (eqb (walk n.place (node_at b) m.first) k) g.1 in
    record {
      few = leb-true m.count 64 a.0;
      within = ltb-true n.place m.count c.0;
      stays = stay_is n.state f.0;
      older = ltb-true n.serial.0 q.serial.0 f.1;
      serial = eqb-true m.serial.0 q.serial.0 h.0;
      ring = blossom_is m.class h.1;
      near = eqb-true (climb 8 (view b) q.unit) t j.0;
      seat = eqb-true (walk n.place (node_at b) m.first) k j.1;
    }

seat_holds : (b : List ℕ) (k t : ℕ) (n : Node) (q : Handle) (m : Node) → Seat b k t n q m → seat_in b k t n q m ≡ true
unfolding seat_in
seat_holds b k t n q m S =
    both_true (le-leb m.count 64 S.few) (both_true (lt-ltb n.place m.count S.within) (both_true (both_true (ap is_stay S.stays) (lt-ltb n.serial.0 q.serial.0 S.older))
    (both_true (both_true (eq-eqb m.serial.0 q.serial.0 S.serial) (ap blossom_of S.ring)) (both_true (eq-eqb (climb 8 (view b) q.unit) t S.near) (eq-eqb (walk n.place (node_at b) m.first) k S.seat)))))

module _ (b : List ℕ) (k t : ℕ) (n : Node) where
  pub parent_alone : parent_test b k t n ≡ true → n.parent ≡ None → Alone n
  unfolding parent_test alone_test
  parent_alone e q =
      let x = and_true (eqb n.place 0 && eqb n.next 0) _ (rw q at e) in
      let y = and_true (eqb n.place 0) (eqb n.next 0) x.0 in
      let z = and_true (same_code n.left no_code) (same_code n.right no_code) x.1 in
      record { place = eqb-true n.place 0 y.0; next = eqb-true n.next 0 y.1; left = same_packed n.left no_code z.0; right = same_packed n.right no_code z.1 }

  pub parent_seat : parent_test b k t n ≡ true → (q : Handle) → n.parent ≡ Some q → Seat b k t n q (node_at b (q.unit * 64 + q.slot))
  unfolding parent_test seat_in
  parent_seat e q p = seat_says b k t n q (node_at b (q.unit * 64 + q.slot)) (rw p at e)

  pub alone_parent : n.parent ≡ None → Alone n → parent_test b k t n ≡ true
  unfolding parent_test alone_test
  alone_parent q L = rw q (both_true (both_true (eq-eqb n.place 0 L.place) (eq-eqb n.next 0 L.next)) (both_true (same_self n.left no_code L.left) (same_self n.right no_code L.right)))

  pub seat_parent : (q : Handle) → n.parent ≡ Some q → Seat b k t n q (node_at b (q.unit * 64 + q.slot)) → parent_test b k t n ≡ true
  unfolding parent_test seat_in
  seat_parent q p S = rw p (seat_holds b k t n q (node_at b (q.unit * 64 + q.slot)) S)

-- ---- a value
module _ (g : GrowState) (bias t w : ℕ) where
  pub near_says : near_test g bias t w ≡ true → (1152921504606846976 - w ≤ value_by g bias t) × (value_by g bias t ≤ 1152921504606846976 + w)
  unfolding near_test
  near_says e =
      let x = and_true (leb 576460752303423488 bias) _ e in
      let y = and_true (leb bias 2305843009213693952) _ x.1 in
      let z = and_true (leb (1152921504606846976 - w) (value_by g bias t)) (leb (value_by g bias t) (1152921504606846976 + w)) y.1 in
      (leb-true (1152921504606846976 - w) (value_by g bias t) z.0, leb-true (value_by g bias t) (1152921504606846976 + w) z.1)

  pub near_holds : 576460752303423488 ≤ bias → bias ≤ 2305843009213693952 → 1152921504606846976 - w ≤ value_by g bias t → value_by g bias t ≤ 1152921504606846976 + w → near_test g bias t w ≡ true
  unfolding near_test
  near_holds a c d f = both_true (le-leb 576460752303423488 bias a) (both_true (le-leb bias 2305843009213693952 c) (both_true (le-leb (1152921504606846976 - w) (value_by g bias t) d) (le-leb (value_by g bias t) (1152921504606846976 + w) f)))
