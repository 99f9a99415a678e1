-- A bench that passes the test `sound` is sound: each part of the test says its fact, of every top and every node. Assumes nothing.
use Rattle.std.specs.Prelude.{None, Option, Some}
use Prim.Native.Nat.{ℕ, ◌*◌, ◌≤◌, ◌<◌}
use mathlib.Core.Path.{◌≡◌, refl, sym, ◌∙◌, ap, subst}
use mathlib.Core.Bool.{Bool, true, false, not, ◌&&◌, ◌||◌, true≢false}
use mathlib.Core.List.{List}
use native.Mathlib.Omega.{arith}
use native.Mathlib.Decide.{dec_lt}
use lib.Dec.{eqb, leb, ltb}
use borrow.Author.Tests.{leb-true, ltb-true, eqb-true}
use lib.ListN.{length}
use lib.IntN.{nat_abs, ◌-ℤ◌}
use Rattle.ledger_spec.specs.Bench.{Handle, State, grows, stays, shrinks, Member, Class, defect, blossom, Node, Bench}
use Rattle.ledger_spec.specs.Look.{interface, slot_of, node_named, top, tree, same_handle}
use Rattle.ledger_spec.specs.Deeds.{sizes, members}
use Rattle.ledger_spec.specs.Reads.{gather, slots_of}
use Rattle.ledger_spec.specs.SoundTree.{all, units, tally}
use Rattle.ledger_spec.specs.Sound.{is_stay, same_parent, sound_touch, sound_class, sound_parent, sound_slot, rates, afloat, sound}
use Rattle.ledger_spec.specs.Tests.{floored}
use Rattle.ledger_spec.specs.Account.{rates_in}
use Rattle.ledger_spec.specs.Frame.{Frame}
use Rattle.ledger_spec.specs.Knit.{mk, nodes, In, Has, Up, Down}
use Rattle.ledger_spec.specs.Facts.{W, Touching, Circle, Floors, Sound}
use Rattle.ledger_spec.proofs.Ints.{zero_diff}
use Rattle.ledger_spec.proofs.Lists.{and_true, all_in, map_in, all_slots}
use Rattle.ledger_spec.proofs.Readings.{slot_out}
use Rattle.ledger_spec.proofs.Knit.{same_handle_lem}
use Rattle.ledger_spec.proofs.Tops.{top_root, below}
use Rattle.ledger_spec.proofs.Trees.{tree_sum_lem, gather_rates}
use Rattle.ledger_spec.proofs.Passed.{node_has}
use Rattle.ledger_spec.proofs.Accepted.{members_of, members_none}
use Rattle.ledger_spec.proofs.Gathered.{in_units, gather_in, held_unit, held_slot, held_in}
use Rattle.ledger_spec.proofs.Serials.{once}
use Rattle.ledger_spec.proofs.SoundParts.{top_open, parent_open, floor_parts}
use Rattle.ledger_spec.proofs.SaysFrame.{Parts, parts, every_linked, framed}

-- ---- a top
record Topped (b : Bench) (i : ℕ) : Type 0 where
  nodes : all (sound_slot b (W b i)) (slots_of b i) ≡ true
  sum : nat_abs (interface b i).sum ≤ 512 * W b i
  speed : (interface b i).speed ≡ rates (slots_of b i)

topped : (b : Bench) → Parts b → (i : ℕ) → i < 8 → (interface b i).parent ≡ None → Topped b i
topped b P i h free =
    let a = and_true (all (sound_slot b (W b i)) (slots_of b i)) (leb (nat_abs (interface b i).sum) (512 * W b i) && eqb (nat_abs ((interface b i).speed -ℤ rates (slots_of b i))) 0) (sym (top_open b i free) ∙ P.tops i h) in
    let c = and_true (leb (nat_abs (interface b i).sum) (512 * W b i)) (eqb (nat_abs ((interface b i).speed -ℤ rates (slots_of b i))) 0) a.1 in
    record {
      nodes = a.0;
      sum = leb-true (nat_abs (interface b i).sum) (512 * W b i) c.0;
      speed = zero_diff (interface b i).speed (rates (slots_of b i)) (eqb-true (nat_abs ((interface b i).speed -ℤ rates (slots_of b i))) 0 c.1);
    }

-- ---- a node
record Placed (b : Bench) (u s : ℕ) (n : Node) : Type 0 where
  least : 1 ≤ n.serial
  below : n.serial < b.next
  value : nat_abs n.value ≤ W b (top b u)
  parent : sound_parent b (mk u s n) n ≡ true
  class : sound_class b (mk u s n) n.class n.size ≡ true

slot_says : (b : Bench) (w u s : ℕ) (n : Node) → sound_slot b w (u, s, Some n) ≡ true
    → (((leb 1 n.serial && ltb n.serial b.next) && leb (nat_abs n.value) w) && (sound_parent b (mk u s n) n && sound_class b (mk u s n) n.class n.size)) ≡ true
unfolding sound_slot
slot_says b w u s n e = e

module _ (b : Bench) (P : Parts b) where
  abbrev F : Frame b
  F = framed b P

  placed : (u s : ℕ) (n : Node) → slot_of b u s ≡ Some n → Placed b u s n
  placed u s n e =
      let a = and_true ((leb 1 n.serial && ltb n.serial b.next) && leb (nat_abs n.value) w) (sound_parent b (mk u s n) n && sound_class b (mk u s n) n.class n.size)
      (slot_says b w u s n (all_in (sound_slot b w) (slots_of b (top b u)) (topped b P (top b u) (below b F 8 u (held_unit b F u s n e)) (top_root b F u)).nodes (held_in b F u s n e))) in
      let c = and_true (leb 1 n.serial && ltb n.serial b.next) (leb (nat_abs n.value) w) a.0 in
      let d = and_true (leb 1 n.serial) (ltb n.serial b.next) c.0 in
      let f = and_true (sound_parent b (mk u s n) n) (sound_class b (mk u s n) n.class n.size) a.1 in
      record { least = leb-true 1 n.serial d.0; below = ltb-true n.serial b.next d.1; value = leb-true (nat_abs n.value) w c.1; parent = f.0; class = f.1 }
    where
      w : ℕ
      w = W b (top b u)

  -- a parent's circle
  stays_of : (s : State) → is_stay s ≡ true → s ≡ stays
  stays_of grows e = absurd (true≢false (sym e))
  stays_of stays e = refl
  stays_of shrinks e = absurd (true≢false (sym e))

  up_of : (u s : ℕ) (n : Node) (q : Handle) → slot_of b u s ≡ Some n → n.parent ≡ Some q → Up (slot_of b) (top b) u s n q
  unfolding tally
  up_of u s n q e f = go (node_named b q) refl
    where
      h : Handle
      h = mk u s n

      said : ((is_stay n.state && ltb n.serial q.serial) && eqb (top b q.unit) (top b u) ≡ true) × (eqb (tally (same_handle h) (members (node_named b q))) 1 ≡ true)
      said = and_true ((is_stay n.state && ltb n.serial q.serial) && eqb (top b q.unit) (top b u)) (eqb (tally (same_handle h) (members (node_named b q))) 1)
          (sym (parent_open b h q n f) ∙ (placed u s n e).parent)

      near : (is_stay n.state && ltb n.serial q.serial ≡ true) × (eqb (top b q.unit) (top b u) ≡ true)
      near = and_true (is_stay n.state && ltb n.serial q.serial) (eqb (top b q.unit) (top b u)) said.0

      older : (is_stay n.state ≡ true) × (ltb n.serial q.serial ≡ true)
      older = and_true (is_stay n.state) (ltb n.serial q.serial) near.0

      once_in : tally (same_handle h) (members (node_named b q)) ≡ 1
      once_in = eqb-true (tally (same_handle h) (members (node_named b q))) 1 said.1

      ring : (m : Node) → node_named b q ≡ Some m → (c : Class) → m.class ≡ c → Up (slot_of b) (top b) u s n q
      ring m k (defect v) r = absurd (omega (arith, sym once_in ∙ ap (tally (same_handle h)) (members_none b q m k v r)))
      ring m k (blossom ms) r = record {
        over = m;
        ms = ms;
        has = node_has b q m k;
        ring = r;
        once = sym (ap (tally (same_handle h)) (members_of b q m k ms r)) ∙ once_in;
        still = stays_of n.state older.0;
        older = ltb-true n.serial q.serial older.1;
        near = sym (eqb-true (top b q.unit) (top b u) near.1);
      }

      go : (o : Option Node) → node_named b q ≡ o → Up (slot_of b) (top b) u s n q
      go None k = absurd (omega (arith, sym once_in ∙ ap (λ (o : Option Node). tally (same_handle h) (members o)) k))
      go (Some m) k = ring m k m.class refl

  -- a circle
  member_says : Handle → Member → Bool
  member_says h m = same_parent (node_named b m.node) h && (sound_touch b m.touch.0 && sound_touch b m.touch.1)

  ring_says : (h : Handle) (ms : List Member) (size : ℕ) → sound_class b h (blossom ms) size ≡ true
      → (((leb 1 (length ms) && leb (length ms) 64) && eqb size (sizes b (nodes ms))) ≡ true) × (all (member_says h) ms ≡ true)
  unfolding sound_class member_says
  ring_says h ms size e = and_true ((leb 1 (length ms) && leb (length ms) 64) && eqb size (sizes b (nodes ms))) (all (member_says h) ms) e

  child_of : (o : Option Node) (h : Handle) → same_parent o h ≡ true → (n : Node) × (o ≡ Some n) × (n.parent ≡ Some h)
  child_of None h e = absurd (true≢false (sym e))
  child_of (Some n) h e = go n.parent refl e
    where
      test : Option Handle → Bool
      test q = elim q [ None ↦ false | Some q ↦ same_handle q h ]

      go : (q : Option Handle) → n.parent ≡ q → test q ≡ true → (m : Node) × (Some n ≡ Some m) × (m.parent ≡ Some h)
      go None f t = absurd (true≢false (sym t))
      go (Some q) f t = (n, refl, f ∙ ap Some (same_handle_lem q h t))

  class_of : (u s : ℕ) (n : Node) (ms : List Member) → slot_of b u s ≡ Some n → n.class ≡ blossom ms
      → (((leb 1 (length ms) && leb (length ms) 64) && eqb n.size (sizes b (nodes ms))) ≡ true) × (all (member_says (mk u s n)) ms ≡ true)
  class_of u s n ms e r = ring_says (mk u s n) ms n.size (ap (λ (c : Class). sound_class b (mk u s n) c n.size) (sym r) ∙ (placed u s n e).class)

  down_of : (u s : ℕ) (n : Node) (ms : List Member) (g : Handle) → slot_of b u s ≡ Some n → n.class ≡ blossom ms → In g (nodes ms) → Down (slot_of b) g (mk u s n)
  unfolding member_says
  down_of u s n ms g e r i =
      let m = map_in (λ (m : Member). m.node) ms i in
      let t = and_true (same_parent (node_named b m.0.node) (mk u s n)) (sound_touch b m.0.touch.0 && sound_touch b m.0.touch.1) (all_in (member_says (mk u s n)) ms (class_of u s n ms e r).1 m.1) in
      let c = child_of (node_named b m.0.node) (mk u s n) t.0 in
      record { node = c.0; has = subst (λ (k : Handle). Has (slot_of b) k c.0) (sym m.2) (node_has b m.0.node c.0 c.1); parent = c.2 }

  touch_of : (t : Handle) → sound_touch b t ≡ true → Touching b t
  touch_of t e =
      let x = and_true (leb t.unit 7 && leb t.slot 63) (ltb t.serial b.next) e in
      let y = and_true (leb t.unit 7) (leb t.slot 63) x.0 in
      record { unit = leb-true t.unit 7 y.0; slot = leb-true t.slot 63 y.1; serial = ltb-true t.serial b.next x.1 }

  circle_of : (u s : ℕ) (n : Node) (ms : List Member) → slot_of b u s ≡ Some n → n.class ≡ blossom ms → Circle b n ms
  unfolding member_says
  circle_of u s n ms e r =
      let c = class_of u s n ms e r in
      let x = and_true (leb 1 (length ms) && leb (length ms) 64) (eqb n.size (sizes b (nodes ms))) c.0 in
      let y = and_true (leb 1 (length ms)) (leb (length ms) 64) x.0 in
      record { least = leb-true 1 (length ms) y.0; most = leb-true (length ms) 64 y.1; size = eqb-true n.size (sizes b (nodes ms)) x.1; touching = λ m i. touches m (all_in (member_says (mk u s n)) ms c.1 i) }
    where
      touches : (m : Member) → (same_parent (node_named b m.node) (mk u s n) && (sound_touch b m.touch.0 && sound_touch b m.touch.1)) ≡ true → Touching b m.touch.0 × Touching b m.touch.1
      touches m t =
          let x = and_true (same_parent (node_named b m.node) (mk u s n)) (sound_touch b m.touch.0 && sound_touch b m.touch.1) t in
          let y = and_true (sound_touch b m.touch.0) (sound_touch b m.touch.1) x.1 in
          (touch_of m.touch.0 y.0, touch_of m.touch.1 y.1)

  single_of : (u s : ℕ) (n : Node) (v : ℕ) → slot_of b u s ≡ Some n → n.class ≡ defect v → n.size ≡ 1
  unfolding sound_class
  single_of u s n v e r = eqb-true n.size 1 (ap (λ (c : Class). sound_class b (mk u s n) c n.size) (sym r) ∙ (placed u s n e).class)

  entry : (u s : ℕ) (n : Node) → slot_of b u s ≡ Some n → In (u, s, Some n) (gather b units)
  entry u s n e = subst (λ (o : Option Node). In (u, s, o) (gather b units)) e (gather_in b u units s (in_units u (held_unit b F u s n e)) (held_slot b F u s n e))

  floors_of : Floors b
  floors_of = record {
    level = λ u p e. let r : (u < p) × (p < 8) = F.rising u p e in (floor_parts b u (P.floor u (omega arith))).0 p e;
    values = λ u s e. values u s e (dec_lt u 8);
  }
    where
      values : (u s : ℕ) → floored b u ≡ true → Dec (u < 8) → afloat (slot_of b u s) ≡ true
      values u s e (yes h) = all_slots afloat refl (interface b u).slots (sym (ap (λ (c : Bool). not c || all afloat (interface b u).slots) e) ∙ (floor_parts b u (P.floor u h)).1) s
      values u s e (no h) = ap afloat (slot_out b u s (omega (arith, h, F.eight)))

  says_parts : Sound b
  says_parts = record {
    frame = F;
    few = λ u. (every_linked b P u).few;
    forward = λ u. (every_linked b P u).forward;
    limit = λ u. (every_linked b P u).limit;
    worn = P.worn;
    sewn = record {
      begun = P.begun;
      knit = record {
        low = λ u s n e. let p = placed u s n e in (p.least, p.below);
        one = λ u s u' s' n n' e e' k. once (gather b units) P.apart (u, s, Some n) (u', s', Some n') n n' (entry u s n e) (entry u' s' n' e') refl refl k;
        up = up_of;
        down = down_of;
      };
    };
    rings = λ u s n e. record { single = λ v r. single_of u s n v e r; circle = λ ms r. circle_of u s n ms e r };
    values = λ u s n e. (placed u s n e).value;
    sums = λ i h free. (topped b P i h free).sum;
    speeds = λ i h free. (topped b P i h free).speed ∙ gather_rates b (tree 8 b i) ∙ tree_sum_lem b F (rates_in b) i h free;
    floors = floors_of;
  }

pub says : (b : Bench) → sound b ≡ true → Sound b
says b e = says_parts b (parts b e)
