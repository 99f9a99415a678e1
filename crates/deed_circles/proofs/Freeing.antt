-- The loop that lets members out, turn by turn. Members stand in one circle, each at a place of its own, and stay; the blossom itself is in no circle,
-- and another blossom's members are other nodes. Assumes nothing.
use Rattle.std.specs.Prelude.{None, Option, Some}
use Prim.Native.Nat.{ℕ, zero, suc, ◌+◌, ◌*◌, ◌/◌, ◌%◌, ◌<◌, ◌≤◌}
use mathlib.Core.Path.{◌≡◌, refl, ap, ap₂, sym, ◌∙◌, subst}
use mathlib.Core.Logic.{◌≢◌, by_cases}
use mathlib.Core.List.{List}
use native.Mathlib.Decide.{ℕ_discrete}
use native.Mathlib.Omega.{arith}
use lib.ListN.{length, get_or}
use Rattle.kinds.specs.declared.GrowState.{GrowState}
use Rattle.kinds.specs.declared.GrowState.TheVariants.{Grow as Growing, Stay, Shrink}
use Rattle.kinds.specs.declared.Class.{Class}
use Rattle.kinds.specs.declared.Class.TheVariants.{Absent, Blossom, Defect}
use Rattle.bench_words.specs.Store.{node_at, interface_at, store_node, map_at}
use Rattle.bench_words.proofs.Laws.{Good, good_node, good_interface, load_same, load_other, store_node_interface}
use Rattle.bench_words.proofs.Maps.{store_node_map}
use Rattle.bench_words.specs.declared.Node.{Node}
use Rattle.bench_words.specs.declared.Interface.{Interface}
use Rattle.ledger_spec.specs.Bench.{Handle, stays, Member}
use Rattle.ledger_spec.specs.Bench as plain
use Rattle.ledger_spec.specs.Look.{climb}
use Rattle.ledger_spec.specs.Tests.{first}
use Rattle.ledger_spec.specs.Refuse.{expand_tests}
use Rattle.ledger_spec.specs.Named.{state_named, parent_named}
use Rattle.ledger_spec.proofs.Knit.{none_some, some_eq}
use Rattle.ledger_spec.proofs.Passed.{Open}
use Rattle.ledger_spec.proofs.Accepted.{expand_passed}
use Rattle.bench_views.specs.Records.{Steady, Ranged}
use Rattle.bench_views.specs.View.{view, lag_of, sum_up, slot_seen, circle_of, follow}
use Rattle.bench_views.specs.Canon.{walk, Coded}
use Rattle.bench_views.specs.Fit.{Fit}
use Rattle.bench_views.proofs.Sums.{sum_up_same}
use Rattle.bench_views.proofs.Views.{view_slot}
use Rattle.bench_views.proofs.Circles.{same_eq, circle_same}
use Rattle.bench_views.proofs.Rings.{Ringed, ringed, slot_blossom}
use Rattle.bench_views.proofs.Ranges.{ranged}
use Rattle.bench_views.proofs.Codes.{coded_node}
use Rattle.deed_raises.proofs.Kept.{node_steady}
use Rattle.deed_nodes.specs.Steps.{no_seat, remarked}
use Rattle.deed_nodes.proofs.Needs.{Stands, stands, stands_free, stands_blossom}
use Rattle.deed_nodes.proofs.Stores.{node_next}
use Rattle.deed_nodes.proofs.Keeps.{walk_in}
use Rattle.deed_circles.specs.Members.{freed_node}
use Rattle.deed_circles.proofs.Rounds.{turned, turn_here, turn_else, turn_coming}

-- ---- the tests of expand, passed
pub record Expandable (b : List ℕ) (t : ℕ) (h : Handle) : Type 0 where
  pub root : Open (view b) t
  pub stands : Stands b h
  pub under : climb 8 (view b) h.unit ≡ t
  pub class : (node_at b (h.unit * 64 + h.slot)).class ≡ Blossom
  pub free : (node_at b (h.unit * 64 + h.slot)).parent ≡ None

pub expandable : (b : List ℕ) (t : ℕ) (h : Handle) → Fit b → first (expand_tests (view b) t h) ≡ 0 → Expandable b t h
expandable b t h F e =
    let P = expand_passed (view b) t h e in
    let s = stands b F h P.named in
    record { root = P.here; stands = s; under = P.named.near; class = stands_blossom s P.named.is P.ring; free = stands_free s P.named.is P.orphan }

-- ---- after i members let out
abbrev pub freeing : List ℕ → ℕ → ℕ → ℕ → Node
freeing b f = turned (λ i. walk i (node_at b) f) (λ i. sum_up 8 (interface_at b) (walk i (node_at b) f / 64)) Growing (λ i. no_seat) (node_at b)

-- words that hold them; f is the first member and p the next
pub record Freeing (b : List ℕ) (f : ℕ) (b₁ : List ℕ) (p i : ℕ) : Type 0 where
  pub at : p ≡ walk i (node_at b) f
  pub steady : Steady b₁
  pub coded : Coded b₁
  pub next : get_or b₁ 0 0 ≡ get_or b 0 0
  pub interfaces : (v : ℕ) → v < 8 → interface_at b₁ v ≡ interface_at b v
  pub maps : (v : ℕ) → v < 8 → map_at b₁ v ≡ map_at b v
  pub nodes : (k : ℕ) → node_at b₁ k ≡ freeing b f i k

pub freeing_begins : (b : List ℕ) (f : ℕ) → Fit b → Freeing b f b f 0
unfolding walk turned
freeing_begins b f F = record { at = refl; steady = F.canon.steady; coded = F.canon.coded; next = refl; interfaces = λ v l. refl; maps = λ v l. refl; nodes = λ k. refl }

-- ---- what a slot shows of a state
slot_state : (n : Node) (t : ℕ) (ms : List Member) (m : plain.Node) → slot_seen n t ms ≡ Some m → m.state ≡ state_named n.state
unfolding slot_seen
slot_state n t ms m h = go n.class refl
  where
    go : (c : Class) → n.class ≡ c → m.state ≡ state_named n.state
    go Absent e = absurd (let h2 : None ≡ Some m = rw e at h in none_some refl h2)
    go Blossom e = let h2 = rw e at h in cc
    go (Defect v) e = let h2 = rw e at h in cc

stays_is : (g : GrowState) → state_named g ≡ stays → g ≡ Stay
stays_is Growing e = absurd (let z : ◌≡◌ {A = ℕ} 0 1 = cc in omega arith)
stays_is Stay e = refl
stays_is Shrink e = absurd (let z : ◌≡◌ {A = ℕ} 0 1 = cc in omega arith)

length_follow : (n : ℕ) (A : ℕ → Node) (k : ℕ) → length (follow n A k) ≡ n
unfolding follow
length_follow zero A k = refl
length_follow (suc n) A k = ap suc (length_follow n A (A k).next)

same_place : {v r s v' r' s' : ℕ} {o : Option Handle} → o ≡ Some (record { unit = v; slot = r; serial = s }) → o ≡ Some (record { unit = v'; slot = r'; serial = s' }) → (v ≡ v') × (r ≡ r')
same_place {v} {r} {s} {v'} {r'} {s'} p q =
    let e : ◌≡◌ {A = Handle} (record { unit = v; slot = r; serial = s }) (record { unit = v'; slot = r'; serial = s' }) = some_eq p q in
    (ap (λ (h : Handle). h.unit) e, ap (λ (h : Handle). h.slot) e)

module _ (b : List ℕ) (t : ℕ) (h : Handle) (F : Fit b) (X : Expandable b t h) where
  abbrev pub k₁ : ℕ
  k₁ = h.unit * 64 + h.slot

  abbrev pub f₁ : ℕ
  f₁ = (node_at b k₁).first

  abbrev pub m₁ : ℕ
  m₁ = (node_at b k₁).count

  abbrev pub at₁ : ℕ → ℕ
  at₁ i = walk i (node_at b) f₁

  abbrev pub T₁ : ℕ → ℕ
  T₁ i = sum_up 8 (interface_at b) (at₁ i / 64)

  pub lu : h.unit < 8
  lu = X.stands.unit

  pub ls : h.slot < (interface_at b h.unit).used
  ls = X.stands.slot

  -- ---- the members
  pub member : (i : ℕ) → i < m₁ → Ringed b F.sewn h.unit h.slot (at₁ i)
  member i l = ringed b F.sewn h.unit h.slot lu ls X.class (at₁ i) (walk_in m₁ i (node_at b) f₁ l)

  pub apart : (i j : ℕ) → i < m₁ → j < m₁ → i ≢ j → at₁ i ≢ at₁ j
  apart i j li lj ne e =
      let C = F.canon in
      ne (sym (C.chain k₁ i X.stands.low X.class li) ∙ ap (λ (p : ℕ). (node_at b p).place) e ∙ C.chain k₁ j X.stands.low X.class lj)

  pub below : (i : ℕ) → i < m₁ → at₁ i < 512
  below i l =
      let g = member i l in
      let a = g.unit in
      omega arith

  back : (i : ℕ) → at₁ i / 64 * 64 + at₁ i % 64 ≡ at₁ i
  back i = omega arith

  pub few : m₁ ≤ 64
  few =
      let B = slot_blossom (node_at b k₁) (sum_up 8 (interface_at b) h.unit) (circle_of (node_at b) k₁) X.class in
      let c = F.circle h.unit h.slot B.node (circle_of (node_at b) k₁) (view_slot (get_or b 0 0) (interface_at b) (node_at b) h.unit h.slot lu ls ∙ B.shown) B.class in
      omega (arith, c.1, length_follow m₁ (node_at b) f₁)

  pub member_ranged : (i : ℕ) → i < m₁ → Ranged (node_at b (at₁ i))
  member_ranged i l =
      let g = member i l in
      subst (λ (p : ℕ). Ranged (node_at b p)) (back i)
      (ranged b F.canon.steady F.within (at₁ i / 64) (at₁ i % 64) g.unit g.slot (subst (λ (p : ℕ). (node_at b p).class ≡ Absent → ⊥) (sym (back i)) g.present))

  pub still : (i : ℕ) → i < m₁ → (node_at b (at₁ i)).state ≡ Stay
  still i l =
      let g = member i l in
      let q : Handle = record { unit = h.unit; slot = h.slot; serial = (node_at b k₁).serial.0 } in
      let up = F.sewn.knit.up (at₁ i / 64) (at₁ i % 64) g.node q g.stands g.above in
      let s = slot_state (node_at b (at₁ i / 64 * 64 + at₁ i % 64)) (sum_up 8 (interface_at b) (at₁ i / 64)) (circle_of (node_at b) (at₁ i / 64 * 64 + at₁ i % 64)) g.node
      (sym (view_slot (get_or b 0 0) (interface_at b) (node_at b) (at₁ i / 64) (at₁ i % 64) g.unit g.slot) ∙ g.stands) in
      stays_is (node_at b (at₁ i)).state (ap (λ (p : ℕ). state_named (node_at b p).state) (sym (back i)) ∙ sym s ∙ up.still)

  -- ---- what is in no circle, and what is in another one
  pub not_top : (v r p : ℕ) → Ringed b F.sewn v r p → p ≢ k₁
  not_top v r p g e = none_some (ap (λ (x : ℕ). parent_named (node_at b x).parent) e ∙ ap parent_named X.free) g.parent

  pub not_member : (v r p j : ℕ) → v * 64 + r ≢ k₁ → j < m₁ → Ringed b F.sewn v r p → p ≢ at₁ j
  not_member v r p j ne l g e =
      let s = same_place (ap (λ (x : ℕ). parent_named (node_at b x).parent) (sym e) ∙ g.parent) (member j l).parent in
      ne (ap₂ (λ (x y : ℕ). x * 64 + y) s.0 s.1)

  -- nodes that differ from b's at the blossom and its members alone have the other circles
  pub ring_kept : (B : ℕ → Node) → ((p : ℕ) → p ≢ k₁ → ((j : ℕ) → j < m₁ → p ≢ at₁ j) → B p ≡ node_at b p)
      → (v r : ℕ) → v < 8 → r < (interface_at b v).used → v * 64 + r ≢ k₁ → (node_at b (v * 64 + r)).class ≡ Blossom
      → (B (v * 64 + r)).count ≡ (node_at b (v * 64 + r)).count → (B (v * 64 + r)).first ≡ (node_at b (v * 64 + r)).first → circle_of B (v * 64 + r) ≡ circle_of (node_at b) (v * 64 + r)
  ring_kept B same v r lv lr ne e c f =
      circle_same (node_at b) B (v * 64 + r) c f
      (λ p i. let g = ringed b F.sewn v r lv lr e p i in same_eq (same p (not_top v r p g) (λ j l. not_member v r p j ne l g)))

  -- ---- one turn
  module _ (b₁ : List ℕ) (p i : ℕ) (G : Freeing b f₁ b₁ p i) (l : i < m₁) where
    node_now : node_at b₁ p ≡ node_at b (at₁ i)
    node_now = ap (node_at b₁) G.at ∙ G.nodes (at₁ i) ∙ turn_coming at₁ T₁ Growing (λ j. no_seat) (node_at b) m₁ apart i i (omega arith) l

    pub free_can : (p < 512) × Steady b₁ × Ranged (node_at b₁ p)
    free_can = (subst (λ (x : ℕ). x < 512) (sym G.at) (below i l), G.steady, subst Ranged (sym node_now) (member_ranged i l))

    pub free_turns : (b₂ : List ℕ) (p' : ℕ) → b₂ ≡ store_node b₁ p (freed_node (interface_at b₁) (node_at b₁) p) → p' ≡ (node_at b₁ p).next → Freeing b f₁ b₂ p' (suc i)
    unfolding walk
    free_turns b₂ p' e ep =
        let k = at₁ i in
        let lk = below i l in
        let x = freed_node (interface_at b₁) (node_at b₁) k in
        let len = G.steady.len in
        let old = good_node b₁ k in
        let good : Good x = record { serial = old.serial; class = old.class; parent = tt; left = (omega arith, omega arith, omega arith); right = (omega arith, omega arith, omega arith) } in
        let q : b₂ ≡ store_node b₁ k x = e ∙ ap (λ (z : ℕ). store_node b₁ z (freed_node (interface_at b₁) (node_at b₁) z)) G.at in
        let sum : sum_up 8 (interface_at b₁) (k / 64) ≡ T₁ i =
        sum_up_same (interface_at b) (interface_at b₁) (λ v lv. good_interface b v) (λ v lv. ap (λ (f : Interface). f.parent) (G.interfaces v lv)) (λ v lv. ap (λ (f : Interface). lag_of f) (G.interfaces v lv)) 8 (k / 64) (omega arith) in
        rw q
        (record {
          at = ep ∙ ap (λ (n : Node). n.next) node_now;
          steady = node_steady b₁ k x lk G.steady;
          coded = coded_node b₁ k x len lk good G.coded;
          next = node_next b₁ k x lk good len ∙ G.next;
          interfaces = λ v lv. store_node_interface b₁ k x len lk v lv ∙ G.interfaces v lv;
          maps = λ v lv. store_node_map b₁ k x len lk v lv ∙ G.maps v lv;
          nodes = λ j. by_cases (ℕ_discrete j k)
              (λ (z : j ≡ k).
              ap (node_at (store_node b₁ k x)) z ∙ load_same b₁ k x len lk good ∙ ap₂ (λ (n : Node) (w : ℕ). remarked n w Growing no_seat) (G.nodes k) sum
              ∙ sym (turn_here at₁ T₁ Growing (λ n. no_seat) (node_at b) i j z))
              (λ (ne : j ≡ k → ⊥). load_other b₁ k x len lk j ne ∙ G.nodes j ∙ sym (turn_else at₁ T₁ Growing (λ n. no_seat) (node_at b) i j ne));
        })
