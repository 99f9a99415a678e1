-- Along a circle: a member without a finding leaves the rest of the circle, and the first one with a finding ends it. All members have the outermost
-- blossom of the circle's own. Assumes nothing.
use Prim.Native.Nat.{ℕ, zero, suc, ◌-◌, ◌/◌, ◌<◌}
use mathlib.Core.Path.{◌≡◌, refl, ap, sym, ◌∙◌, subst}
use mathlib.Core.Bool.{Bool}
use mathlib.Core.List.{List, [], ◌∷◌}
use native.Mathlib.Omega.{arith}
use Rattle.bench_words.specs.Store.{node_at, interface_at}
use Rattle.bench_words.specs.declared.Node.{Node}
use Rattle.kinds.specs.Names.{no_code}
use Rattle.kinds.specs.declared.Class.TheVariants.{Blossom}
use Rattle.kinds.specs.declared.Handle.{Handle as Code}
use Rattle.ledger_spec.specs.Bench.{Handle, Member, Bench}
use Rattle.ledger_spec.specs.Named.{handle_named}
use Rattle.ledger_spec.specs.Walk.{parent_in, outermost}
use Rattle.ledger_spec.specs.Knit.{In, here, there, nodes}
use Rattle.ledger_spec.proofs.Lists.{map_in}
use Rattle.ledger_spec.proofs.Walks.{Inner, inner}
use Rattle.ledger_spec.proofs.Chains.{outer_some, outer_more}
use Rattle.bench_views.specs.View.{view, handle_at, member_at, follow, circle_of, sum_up}
use Rattle.bench_views.specs.Fit.{Fit}
use Rattle.bench_views.proofs.Rings.{slot_blossom}
use Rattle.bench_views.proofs.Slots.{follow_more, follow_none}
use Rattle.bench_vertices.specs.Under.{Placed}
use Rattle.bench_vertices.proofs.Circling.{standing, shown, member_placed}
use Rattle.check_circles.specs.declared.Finding.{Finding}
use Rattle.check_circles.specs.Found.{member_by, circle_by, Circled}

-- ---- the definition, a member at a time
circle_on : (s : Bool) (b : Bench) (m : Member) (ms : List Member) → member_by s b m ≡ 0 → circle_by s b (m ∷ ms) ≡ circle_by s b ms
unfolding circle_by
circle_on s b m ms e = rw (e, circle_by)

circle_bad : (s : Bool) (b : Bench) (m : Member) (ms : List Member) (k : ℕ) → member_by s b m ≡ suc k → circle_by s b (m ∷ ms) ≡ (suc k, m.node)
unfolding circle_by
circle_bad s b m ms k e = rw (e, circle_by)

circle_none : (s : Bool) (b : Bench) → circle_by s b [] ≡ (0, handle_named no_code)
unfolding circle_by
circle_none s b = refl

-- ---- a member has its blossom's outermost blossom
module _ (b : List ℕ) (F : Fit b) (k : ℕ) (P : Placed b k) (e : (node_at b k).class ≡ Blossom) where
  outer_same : (p : ℕ) → In (handle_at (node_at b) p) (nodes (circle_of (node_at b) k)) → outermost (view b) (handle_at (node_at b) k) ≡ outermost (view b) (handle_at (node_at b) p)
  outer_same p i =
      let B = slot_blossom (node_at b k) (sum_up 8 (interface_at b) (k / 64)) (circle_of (node_at b) k) e in
      let m = map_in (λ (x : Member). x.node) (circle_of (node_at b) k) i in
      let N : Inner (view b) (handle_at (node_at b) k) m.0.node = inner (view b) F.facts (handle_at (node_at b) k) B.node (circle_of (node_at b) k) (shown b F k P ∙ B.shown) B.class m.0 m.1 in
      sym (ap (outermost (view b)) m.2 ∙ sym (outer_more (view b) F.facts m.0.node N.node N.is 513 (omega arith))
      ∙ outer_some (view b) 512 m.0.node (handle_at (node_at b) k) (ap parent_in N.is ∙ N.parent))

-- ---- what holds at each turn: m members from position p on are left
pub record Going (b : List ℕ) (k : ℕ) (s : Bool) (p m : ℕ) : Type 0 where
  pub left : circle_by s (view b) (follow m (node_at b) p) ≡ circle_by s (view b) (circle_of (node_at b) k)
  pub inside : (x : ℕ) → In (handle_at (node_at b) x) (nodes (follow m (node_at b) p)) → In (handle_at (node_at b) x) (nodes (circle_of (node_at b) k))

pub going_starts : (b : List ℕ) (k : ℕ) (s : Bool) (n : Node) → n ≡ node_at b k → Going b k s n.first n.count
going_starts b k s n e = subst (λ (x : Node). Going b k s x.first x.count) (sym e) (record { left = refl; inside = λ x i. i })

module _ (b : List ℕ) (F : Fit b) (k : ℕ) (P : Placed b k) (e : (node_at b k).class ≡ Blossom) (s : Bool) (p m : ℕ) (G : Going b k s p m) where
  pub going_ends : m ≡ 0 → (r : Finding) → r.verdict ≡ 0 → r.node ≡ no_code → Circled b k s r
  going_ends z r v n = record {
    found = ap (λ (x : ℕ). (x, handle_named r.node)) v ∙ ap (λ (x : Code). (0, handle_named x)) n ∙ sym (circle_none s (view b)) ∙ sym (ap (circle_by s (view b)) (follow_none (node_at b) m p z)) ∙ G.left;
    stands = λ q. absurd (q v);
  }

  module _ (l : 0 < m) where
    next_in : In (handle_at (node_at b) p) (nodes (circle_of (node_at b) k))
    next_in = G.inside p (rw (follow_more (node_at b) m p l) (here refl))

    pub next_placed : Placed b p
    next_placed = member_placed b F k P e p next_in

    pub next_outer : (o : Handle) → o ≡ outermost (view b) (handle_at (node_at b) k) → o ≡ outermost (view b) (handle_at (node_at b) p)
    next_outer o q = q ∙ outer_same b F k P e p next_in

    pub going_on : (w p' : ℕ) → w ≡ member_by s (view b) (member_at (node_at b) p) → w ≡ 0 → p' ≡ (node_at b p).next → Going b k s p' (m - 1)
    going_on w p' v z q = subst (λ (x : ℕ). Going b k s x (m - 1)) (sym q) (record {
      left = sym (circle_on s (view b) (member_at (node_at b) p) (follow (m - 1) (node_at b) (node_at b p).next) (sym v ∙ z)) ∙ sym (ap (circle_by s (view b)) (follow_more (node_at b) m p l)) ∙ G.left;
      inside = λ x i. G.inside x (rw (follow_more (node_at b) m p l) (there i));
    })

    pub going_found : (r : Finding) → r.verdict ≡ member_by s (view b) (member_at (node_at b) p) → (r.verdict ≡ 0 → ⊥) → handle_named r.node ≡ handle_at (node_at b) p → Circled b k s r
    going_found r v z h = record {
      found = go (member_by s (view b) (member_at (node_at b) p)) refl;
      stands = λ q. rw h (standing b F p next_placed);
    }
      where
        go : (j : ℕ) → member_by s (view b) (member_at (node_at b) p) ≡ j → (r.verdict, handle_named r.node) ≡ circle_by s (view b) (circle_of (node_at b) k)
        go zero j = absurd (z (v ∙ j))
        go (suc i) j = ap (λ (x : ℕ). (x, handle_named r.node)) (v ∙ j) ∙ ap (λ (x : Handle). (suc i, x)) h
            ∙ sym (circle_bad s (view b) (member_at (node_at b) p) (follow (m - 1) (node_at b) (node_at b p).next) i j) ∙ sym (ap (circle_by s (view b)) (follow_more (node_at b) m p l)) ∙ G.left
