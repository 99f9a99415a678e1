-- One slot of the walk, by what its words hold: nothing, a vertex met or new, a circle with a finding or without. Assumes nothing.
use Rattle.std.specs.Prelude.{None, Some}
use Prim.Native.Nat.{ℕ, zero, suc, ◌+◌, ◌/◌, ◌%◌, ◌*◌, ◌<◌}
use mathlib.Core.Path.{◌≡◌, refl, ap, ap₂, sym, ◌∙◌}
use mathlib.Core.Bool.{Bool, true, false, true≢false}
use mathlib.Core.List.{List, [], ◌∷◌}
use native.Mathlib.Omega.{arith}
use lib.Dec.{eqb}
use lib.ListN.{get_or}
use Rattle.bench_words.specs.Store.{node_at, interface_at}
use Rattle.bench_words.specs.declared.Node.{Node}
use Rattle.kinds.specs.declared.Class.TheVariants.{Absent, Blossom, Defect}
use Rattle.kinds.specs.declared.Vertex.{Vertex}
use Rattle.ledger_spec.specs.Bench.{Handle, Member, defect, blossom, Bench}
use Rattle.ledger_spec.specs.Bench as plain
use Rattle.ledger_spec.specs.Tests.{any}
use Rattle.ledger_spec.specs.Reads.{slots_of}
use Rattle.ledger_spec.specs.Check.{index_in, member_verdict, strict_member, circle_verdict, strict_circle, finding}
use Rattle.ledger_laws.specs.Clean.{Entry}
use Rattle.ledger_laws.proofs.Steps.{strict_on, strict_bad, walk_empty, walk_again, walk_new, walk_ring, walk_bad, strict_empty, strict_vertex, strict_ring, strict_six}
use Rattle.bench_views.specs.View.{view, node_seen, slot_seen, sum_up, circle_of}
use Rattle.bench_views.proofs.Views.{view_slot}
use Rattle.bench_views.proofs.Slots.{slot_absent, slot_defect, slot_ring}
use Rattle.bench_orders.specs.Order.{AtIndex}
use Rattle.bench_vertices.specs.Under.{Placed}
use Rattle.check_seen.specs.Met.{known, Keeps, Meets}
use Rattle.check_circles.specs.Found.{member_by, circle_by}
use Rattle.check_walks.specs.declared.Step.{Step}
use Rattle.check_walks.specs.declared.Judged.{Judged}
use Rattle.check_walks.specs.Walks.{walk_by, Ringed, Steps}

-- ---- the circle's finding, as each of the two checks has it
plain_circle : (b : Bench) (ms : List Member) → circle_by false b ms ≡ circle_verdict b ms
unfolding circle_by circle_verdict member_by
plain_circle b [] = refl
plain_circle b (m ∷ ms) = go (member_verdict b m) refl (plain_circle b ms)
  where
    pick : ℕ → ℕ × Handle → ℕ × Handle
    pick k r = elim k [ zero ↦ r | suc j ↦ (suc j, m.node) ]

    go : (k : ℕ) → member_verdict b m ≡ k → circle_by false b ms ≡ circle_verdict b ms → pick (member_verdict b m) (circle_by false b ms) ≡ pick (member_verdict b m) (circle_verdict b ms)
    go k e ih = ap (pick (member_verdict b m)) ih

-- 6, or nothing
pub record Strictly (b : Bench) (ms : List Member) : Type 0 where
  pub none_found : (circle_by true b ms).0 ≡ 0 → strict_circle b ms ≡ None
  pub six_found : ((circle_by true b ms).0 ≡ 0 → ⊥) → ((circle_by true b ms).0 ≡ 6) × (strict_circle b ms ≡ Some (circle_by true b ms).1)

six : Bool → ℕ
six c = elim c [ true ↦ 0 | false ↦ 6 ]

strictly : (b : Bench) (ms : List Member) → Strictly b ms
unfolding circle_by strict_circle member_by
strictly b [] = record { none_found = λ e. refl; six_found = λ e. absurd (e refl) }
strictly b (m ∷ ms) = go (strict_member b m) refl (strictly b ms)
  where
    go : (c : Bool) → strict_member b m ≡ c → Strictly b ms → Strictly b (m ∷ ms)
    go true e S =
        let x : circle_by true b (m ∷ ms) ≡ circle_by true b ms = rw (e, circle_by, member_by) in
        record {
          none_found = λ z. strict_on b m ms e ∙ S.none_found (sym (ap (λ (r : ℕ × Handle). r.0) x) ∙ z);
          six_found = λ z. let r = S.six_found (λ q. z (ap (λ (r : ℕ × Handle). r.0) x ∙ q)) in (ap (λ (r : ℕ × Handle). r.0) x ∙ r.0, strict_on b m ms e ∙ r.1 ∙ sym (ap (λ (r : ℕ × Handle). Some r.1) x));
        }
    go false e S =
        let x : circle_by true b (m ∷ ms) ≡ (6, m.node) = rw (e, circle_by, member_by) in
        record {
          none_found = λ z. absurd (omega (arith, z, ap (λ (r : ℕ × Handle). r.0) x));
          six_found = λ z. (ap (λ (r : ℕ × Handle). r.0) x, strict_bad b m ms e ∙ sym (ap (λ (r : ℕ × Handle). Some r.1) x));
        }

-- ---- one slot, by the flag
module _ (b : Bench) (whole : List Entry) (t : Entry) (ts : List Entry) (seen : List ℕ) (k : ℕ) where
  by_empty : (s : Bool) → t.2 ≡ None → walk_by s b whole (t ∷ ts) seen k ≡ walk_by s b whole ts seen (suc k)
  unfolding walk_by
  by_empty true e = strict_empty b whole t ts e
  by_empty false e = walk_empty b whole t ts seen k e

  module _ (n : plain.Node) (e : t.2 ≡ Some n) where
    by_vertex : (s : Bool) → s ≡ true → (v : ℕ) → n.class ≡ defect v → walk_by s b whole (t ∷ ts) seen k ≡ walk_by s b whole ts seen (suc k)
    unfolding walk_by
    by_vertex true q v c = strict_vertex b whole t ts n e v c
    by_vertex false q v c = absurd (true≢false (sym q))

    by_again : (s : Bool) → s ≡ false → (v : ℕ) → n.class ≡ defect v → any (eqb v) seen ≡ true → walk_by s b whole (t ∷ ts) seen k ≡ (1, k)
    unfolding walk_by
    by_again true q v c a = absurd (true≢false q)
    by_again false q v c a = walk_again b whole t ts seen k n e v c a

    by_new : (s : Bool) → s ≡ false → (v : ℕ) → n.class ≡ defect v → any (eqb v) seen ≡ false → walk_by s b whole (t ∷ ts) seen k ≡ walk_by s b whole ts (v ∷ seen) (suc k)
    unfolding walk_by
    by_new true q v c a = absurd (true≢false q)
    by_new false q v c a = walk_new b whole t ts seen k n e v c a

    by_ring : (s : Bool) (ms : List Member) → n.class ≡ blossom ms → (circle_by s b ms).0 ≡ 0 → walk_by s b whole (t ∷ ts) seen k ≡ walk_by s b whole ts seen (suc k)
    unfolding walk_by
    by_ring true ms c z = strict_ring b whole t ts n e ms c ((strictly b ms).none_found z)
    by_ring false ms c z = walk_ring b whole t ts seen k n e ms c (sym (ap (λ (r : ℕ × Handle). r.0) (plain_circle b ms)) ∙ z)

    by_bad : (s : Bool) (ms : List Member) → n.class ≡ blossom ms → ((circle_by s b ms).0 ≡ 0 → ⊥) → walk_by s b whole (t ∷ ts) seen k ≡ ((circle_by s b ms).0, index_in whole 0 (circle_by s b ms).1)
    unfolding walk_by
    by_bad true ms c z = let r = (strictly b ms).six_found z in strict_six b whole t ts n e ms c (circle_by true b ms).1 r.1 ∙ ap (λ (j : ℕ). (j, index_in whole 0 (circle_by true b ms).1)) (sym r.0)
    by_bad false ms c z = go (circle_verdict b ms).0 refl
      where
        p : circle_by false b ms ≡ circle_verdict b ms
        p = plain_circle b ms

        go : (j : ℕ) → (circle_verdict b ms).0 ≡ j → finding b whole (t ∷ ts) seen k ≡ ((circle_by false b ms).0, index_in whole 0 (circle_by false b ms).1)
        go zero j = absurd (z (ap (λ (r : ℕ × Handle). r.0) p ∙ j))
        go (suc i) j = walk_bad b whole t ts seen k n e ms c i j ∙ ap (λ (x : ℕ). (x, index_in whole 0 (circle_verdict b ms).1)) (sym j) ∙ sym (ap (λ (r : ℕ × Handle). (r.0, index_in whole 0 r.1)) p)

-- ---- in words
module _ (b : List ℕ) (unit k p : ℕ) (I : AtIndex b unit k p) (x : Node) (e : x ≡ node_at b p) where
  abbrev here : Entry
  here = get_or (slots_of (view b) unit) k (0, 0, None)

  split : p / 64 * 64 + p % 64 ≡ p
  split = omega arith

  seen : here.2 ≡ slot_seen x (sum_up 8 (interface_at b) (p / 64)) (circle_of (node_at b) p)
  seen = ap (λ (t : Entry). t.2) I.at ∙ view_slot (get_or b 0 0) (interface_at b) (node_at b) (p / 64) (p % 64) I.low I.used
      ∙ ap (λ (y : ℕ). slot_seen (node_at b y) (sum_up 8 (interface_at b) (p / 64)) (circle_of (node_at b) y)) split
      ∙ ap (λ (y : Node). slot_seen y (sum_up 8 (interface_at b) (p / 64)) (circle_of (node_at b) p)) (sym e)

  pub low_place : p < 512
  low_place = let l = I.low in omega arith

  module _ (s : Bool) (met : List ℕ) (n : ℕ) (K : Keeps met n) where
    abbrev passed : Step
    passed = record { verdict = 0; index = record { 0 = 0 }; count = n }

    pub look_absent : x.class ≡ Absent → Steps b unit s k met n met passed
    look_absent c = record {
      few = omega arith;
      kept = λ q. K;
      on = λ q ts. by_empty (view b) (slots_of (view b) unit) here ts (known met n) k s (seen ∙ slot_absent x (sum_up 8 (interface_at b) (p / 64)) (circle_of (node_at b) p) c);
      found = λ q. absurd (q refl);
    }

    module _ (v : Vertex) (c : x.class ≡ Defect v) where
      there : here.2 ≡ Some (node_seen x (sum_up 8 (interface_at b) (p / 64)) (defect v.0))
      there = seen ∙ slot_defect x (sum_up 8 (interface_at b) (p / 64)) (circle_of (node_at b) p) v c

      pub look_strict : s ≡ true → Steps b unit s k met n met passed
      look_strict f = record {
        few = omega arith;
        kept = λ q. K;
        on = λ q ts. by_vertex (view b) (slots_of (view b) unit) here ts (known met n) k (node_seen x (sum_up 8 (interface_at b) (p / 64)) (defect v.0)) there s f v.0 refl;
        found = λ q. absurd (q refl);
      }

      module _ (f : s ≡ false) (met' : List ℕ) (r : Bool) (M : Meets met n v.0 met' r) where
        pub look_again : r ≡ true → Steps b unit s k met n met' (record { verdict = 1; index = record { 0 = k }; count = n })
        look_again a = record {
          few = omega arith;
          kept = λ q. absurd (omega (arith, q));
          on = λ q. absurd (omega (arith, q));
          found = λ q ts. by_again (view b) (slots_of (view b) unit) here ts (known met n) k (node_seen x (sum_up 8 (interface_at b) (p / 64)) (defect v.0)) there s f v.0 refl (sym M.answer ∙ a);
        }

        pub look_new : r ≡ false → Steps b unit s k met n met' (record { verdict = 0; index = record { 0 = 0 }; count = n + 1 })
        look_new a = record {
          few = omega arith;
          kept = λ q. M.kept a;
          on = λ q ts. by_new (view b) (slots_of (view b) unit) here ts (known met n) k (node_seen x (sum_up 8 (interface_at b) (p / 64)) (defect v.0)) there s f v.0 refl (sym M.answer ∙ a)
              ∙ ap (λ (l : List ℕ). walk_by s (view b) (slots_of (view b) unit) ts l (suc k)) (sym (M.noted a));
          found = λ q. absurd (q refl);
        }

    module _ (c : x.class ≡ Blossom) where
      pub ring_placed : Placed b p
      ring_placed = record { low = low_place; used = I.used; present = λ z. let q : Absent ≡ Blossom = sym z ∙ ring in let q2 : ◌≡◌ {A = ℕ} 0 1 = cc in omega arith }
        where
          ring : (node_at b p).class ≡ Blossom
          ring = ap (λ (y : Node). y.class) (sym e) ∙ c

      pub ring_is : (node_at b p).class ≡ Blossom
      ring_is = ap (λ (y : Node). y.class) (sym e) ∙ c

      around : here.2 ≡ Some (node_seen x (sum_up 8 (interface_at b) (p / 64)) (blossom (circle_of (node_at b) p)))
      around = seen ∙ slot_ring x (sum_up 8 (interface_at b) (p / 64)) (circle_of (node_at b) p) c

      pub look_ring : (r : Judged) → Ringed b unit p s r → Steps b unit s k met n met (record { verdict = r.verdict; index = r.index; count = n })
      look_ring r R = record {
        few = omega arith;
        kept = λ q. K;
        on = λ q ts. by_ring (view b) (slots_of (view b) unit) here ts (known met n) k (node_seen x (sum_up 8 (interface_at b) (p / 64)) (blossom (circle_of (node_at b) p))) around s (circle_of (node_at b) p) refl
            (sym (ap (λ (y : ℕ × Handle). y.0) R.circled.found) ∙ sym R.verdict ∙ q);
        found = λ q ts. by_bad (view b) (slots_of (view b) unit) here ts (known met n) k (node_seen x (sum_up 8 (interface_at b) (p / 64)) (blossom (circle_of (node_at b) p))) around s (circle_of (node_at b) p) refl
            (λ w. q (R.verdict ∙ ap (λ (u : ℕ × Handle). u.0) R.circled.found ∙ w))
            ∙ sym (ap (λ (u : ℕ × Handle). (u.0, index_in (slots_of (view b) unit) 0 u.1)) R.circled.found) ∙ ap₂ (λ (v w : ℕ). (v, w)) (sym R.verdict) (sym (R.index (λ w. q (R.verdict ∙ w))));
      }
