-- The circle of a blossom in words: its members stand where the links lead, present and older; what is left of the circle is written after what is
-- written already. Assumes nothing.
use Rattle.std.specs.Prelude.{Some}
use Prim.Native.Nat.{ℕ, suc, ◌+◌, ◌-◌, ◌*◌, ◌/◌, ◌%◌, ◌<◌, ◌≤◌}
use mathlib.Core.Path.{◌≡◌, refl, ap, ap₂, sym, ◌∙◌, subst}
use mathlib.Core.List.{List, [], ◌∷◌, ◌++◌}
use native.Mathlib.Omega.{arith}
use lib.ListN.{length, get_or, set, length-append}
use lib.Seq.{sets, length-sets}
use Rattle.bench_words.specs.Store.{node_at, interface_at}
use Rattle.bench_words.specs.declared.Node.{Node}
use Rattle.kinds.specs.declared.Class.TheVariants.{Absent, Blossom, Defect}
use Rattle.kinds.specs.declared.Vertex.{Vertex}
use Rattle.ledger_spec.specs.Bench.{Handle, Member, defect, blossom}
use Rattle.ledger_spec.specs.Look.{node_named}
use Rattle.ledger_spec.specs.Walk.{each, vertices_of}
use Rattle.ledger_spec.specs.Knit.{In, here, there, nodes}
use Rattle.ledger_spec.proofs.Lists.{map_in}
use Rattle.ledger_spec.proofs.Walks.{inner, vertices_defect, vertices_blossom, first_inner}
use Rattle.bench_views.specs.View.{view, handle_at, member_at, follow, circle_of, sum_up, slot_seen, node_seen}
use Rattle.bench_views.specs.Fit.{Fit}
use Rattle.bench_views.proofs.Rings.{Ringed, ringed}
use Rattle.bench_views.proofs.Slots.{slot_defect, slot_ring, follow_more, follow_none}
use Rattle.bench_links.specs.Find.{Stands}
use Rattle.bench_links.proofs.Finding.{find_there}
use Rattle.bench_vertices.specs.Under.{Placed, under, Wrote}

-- ---- lists
each_cons : (f : Handle → List ℕ) (m : Member) (ms : List Member) → each f (m ∷ ms) ≡ f m.node ++ each f ms
unfolding each
each_cons f m ms = refl

each_nil : (f : Handle → List ℕ) → each f [] ≡ []
unfolding each
each_nil f = refl

sets_append : (xs ys l : List ℕ) (i : ℕ) → sets l i (xs ++ ys) ≡ sets (sets l i xs) (i + length xs) ys
sets_append [] ys l i = let e : i ≡ i + 0 = omega arith in ap (λ (k : ℕ). sets l k ys) e
sets_append (x ∷ xs) ys l i =
    let e : suc i + length xs ≡ i + suc (length xs) = omega arith in
    sets_append xs ys (set l i x) (suc i) ∙ ap (λ (k : ℕ). sets (sets (set l i x) (suc i) xs) k ys) e

module _ (b : List ℕ) (F : Fit b) where
  abbrev A : ℕ → Node
  A = node_at b

  module _ (k : ℕ) (P : Placed b k) where
    split : k / 64 * 64 + k % 64 ≡ k
    split = omega arith

    pub standing : Stands b (handle_at A k)
    standing =
        (find_there b (handle_at A k) F.canon (let l = P.low in omega arith) (omega arith) (k / 64 * 64 + k % 64) refl
        (λ z. P.present (sym (ap (λ (x : ℕ). (A x).class) split) ∙ z)) (ap (λ (x : ℕ). (A x).serial.0) split)).stands

    pub shown : node_named (view b) (handle_at A k) ≡ slot_seen (A k) (sum_up 8 (interface_at b) (k / 64)) (circle_of A k)
    shown = standing.seen ∙ ap (λ (x : ℕ). slot_seen (A x) (sum_up 8 (interface_at b) (k / 64)) (circle_of A x)) split

    pub under_defect : (v : Vertex) → (A k).class ≡ Defect v → under b k ≡ v.0 ∷ []
    under_defect v e = vertices_defect (view b) F.facts (handle_at A k) (node_seen (A k) (sum_up 8 (interface_at b) (k / 64)) (defect v.0)) v.0
        (shown ∙ slot_defect (A k) (sum_up 8 (interface_at b) (k / 64)) (circle_of A k) v e) refl

    module _ (e : (A k).class ≡ Blossom) where
      blossom_there : node_named (view b) (handle_at A k) ≡ Some (node_seen (A k) (sum_up 8 (interface_at b) (k / 64)) (blossom (circle_of A k)))
      blossom_there = shown ∙ slot_ring (A k) (sum_up 8 (interface_at b) (k / 64)) (circle_of A k) e

      pub under_blossom : under b k ≡ each (λ g. vertices_of (view b) g) (circle_of A k)
      under_blossom = vertices_blossom (view b) F.facts (handle_at A k) (node_seen (A k) (sum_up 8 (interface_at b) (k / 64)) (blossom (circle_of A k))) (circle_of A k) blossom_there refl

      -- a member
      pub member_placed : (p : ℕ) → In (handle_at A p) (nodes (circle_of A k)) → Placed b p
      member_placed p i =
          let l = P.low in
          let r : Ringed b F.sewn (k / 64) (k % 64) p = ringed b F.sewn (k / 64) (k % 64) (omega arith) P.used (ap (λ (x : ℕ). (A x).class) split ∙ e) p (subst (λ (x : ℕ). In (handle_at A p) (nodes (circle_of A x))) (sym split) i) in
          let u = r.unit in
          record { low = omega arith; used = r.slot; present = r.present }

      pub member_older : (p : ℕ) → In (handle_at A p) (nodes (circle_of A k)) → (A p).serial.0 < (A k).serial.0
      member_older p i =
          let m = map_in (λ (x : Member). x.node) (circle_of A k) i in
          let l = (inner (view b) F.facts (handle_at A k) (node_seen (A k) (sum_up 8 (interface_at b) (k / 64)) (blossom (circle_of A k))) (circle_of A k) blossom_there refl m.0 m.1).lower in
          omega (arith, l, ap (λ (g : Handle). g.serial) m.2)

-- the vertices of what is left of a circle: m members from position p on
abbrev pub rest : List ℕ → ℕ → ℕ → List ℕ
rest b m p = each (λ g. vertices_of (view b) g) (follow m (node_at b) p)

-- what holds at each turn on the way down from k: a present node stands at p, and its first vertex is k's
pub record Down (b : List ℕ) (k p : ℕ) : Type 0 where
  pub placed : Placed b p
  pub same : get_or (under b p) 0 0 ≡ get_or (under b k) 0 0

-- what holds at each turn along the circle of k
pub record Going (b : List ℕ) (k at : ℕ) (out₀ : List ℕ) (i p m : ℕ) (out : List ℕ) : Type 0 where
  pub ring : (node_at b k).class ≡ Blossom
  pub list : sets out i (rest b m p) ≡ sets out₀ at (under b k)
  pub room : i + length (rest b m p) ≡ at + length (under b k)
  pub long : length out ≡ length out₀
  pub inside : (x : ℕ) → In (handle_at (node_at b) x) (nodes (follow m (node_at b) p)) → In (handle_at (node_at b) x) (nodes (circle_of (node_at b) k))

module _ (b : List ℕ) (F : Fit b) (k : ℕ) (P : Placed b k) (n : Node) (e : n ≡ node_at b k) where
  pub never : n.class ≡ Absent → ⊥
  never q = P.present (ap (λ (x : Node). x.class) (sym e) ∙ q)

  pub one_vertex : (v : Vertex) → n.class ≡ Defect v → under b k ≡ v.0 ∷ []
  one_vertex v q = under_defect b F k P v (ap (λ (x : Node). x.class) (sym e) ∙ q)

  pub first_own : (v : Vertex) → n.class ≡ Defect v → v.0 ≡ get_or (under b k) 0 0
  first_own v q = sym (ap (λ (vs : List ℕ). get_or vs 0 0) (one_vertex v q))

  pub wrote_one : (v : Vertex) → n.class ≡ Defect v → (at : ℕ) (out : List ℕ) → Wrote (under b k) at out (set out at v.0) (at + 1)
  wrote_one v q at out = record { place = ap (λ (vs : List ℕ). at + length vs) (sym (one_vertex v q)); list = ap (λ (vs : List ℕ). sets out at vs) (sym (one_vertex v q)) }

  module _ (q : n.class ≡ Blossom) where
    ring : (node_at b k).class ≡ Blossom
    ring = ap (λ (x : Node). x.class) (sym e) ∙ q

    circle_is : circle_of (node_at b) k ≡ follow n.count (node_at b) n.first
    circle_is = ap (λ (x : Node). follow x.count (node_at b) x.first) (sym e)

    led : circle_of (node_at b) k ≡ member_at (node_at b) n.first ∷ follow (n.count - 1) (node_at b) (node_at b n.first).next
    led = circle_is ∙ follow_more (node_at b) n.count n.first (rw e (F.canon.ring k P.low ring))

    first_in : In (handle_at (node_at b) n.first) (nodes (circle_of (node_at b) k))
    first_in = rw led (here refl)

    pub first_placed : Placed b n.first
    first_placed = member_placed b F k P ring n.first first_in

    pub first_older : (node_at b n.first).serial.0 < (node_at b k).serial.0
    first_older = member_older b F k P ring n.first first_in

    pub first_under : get_or (under b n.first) 0 0 ≡ get_or (under b k) 0 0
    first_under = sym (first_inner (view b) F.facts (handle_at (node_at b) k) (node_seen (node_at b k) (sum_up 8 (interface_at b) (k / 64)) (blossom (circle_of (node_at b) k)))
        (member_at (node_at b) n.first) (follow (n.count - 1) (node_at b) (node_at b n.first).next) (blossom_there b F k P ring) (ap blossom led))

    pub going_starts : (at : ℕ) (out : List ℕ) → Going b k at out at n.first n.count out
    going_starts at out =
        let v : under b k ≡ rest b n.count n.first = under_blossom b F k P ring ∙ ap (each (λ g. vertices_of (view b) g)) circle_is in
        record {
          ring = ring;
          list = ap (sets out at) (sym v);
          room = ap (λ (vs : List ℕ). at + length vs) (sym v);
          long = refl;
          inside = λ x i. rw circle_is i;
        }

module _ (b : List ℕ) (F : Fit b) (k : ℕ) (P : Placed b k) (at : ℕ) (out₀ : List ℕ) (i p m : ℕ) (out : List ℕ) (G : Going b k at out₀ i p m out) where
  pub going_ends : m ≡ 0 → Wrote (under b k) at out₀ out i
  going_ends z =
      let r : rest b m p ≡ [] = ap (each (λ g. vertices_of (view b) g)) (follow_none (node_at b) m p z) ∙ each_nil (λ g. vertices_of (view b) g) in
      record { place = omega (arith, G.room, ap length r); list = sym (ap (sets out i) r) ∙ G.list }

  module _ (l : 0 < m) where
    next_in : In (handle_at (node_at b) p) (nodes (circle_of (node_at b) k))
    next_in = G.inside p (rw (follow_more (node_at b) m p l) (here refl))

    pub next_placed : Placed b p
    next_placed = member_placed b F k P G.ring p next_in

    pub next_older : (node_at b p).serial.0 < (node_at b k).serial.0
    next_older = member_older b F k P G.ring p next_in

    more : rest b m p ≡ under b p ++ rest b (m - 1) (node_at b p).next
    more = ap (each (λ g. vertices_of (view b) g)) (follow_more (node_at b) m p l) ∙ each_cons (λ g. vertices_of (view b) g) (member_at (node_at b) p) (follow (m - 1) (node_at b) (node_at b p).next)

    lengths : length (rest b m p) ≡ length (under b p) + length (rest b (m - 1) (node_at b p).next)
    lengths = ap length more ∙ length-append (under b p) (rest b (m - 1) (node_at b p).next)

    pub next_room : at + length (under b k) ≤ length out₀ → i + length (under b p) ≤ length out
    next_room h = omega (arith, h, lengths, G.room, G.long)

    pub going_on : (out' : List ℕ) (i' p' m' : ℕ) → Wrote (under b p) i out out' i' → p' ≡ (node_at b p).next → m' ≡ m - 1 → Going b k at out₀ i' p' m' out'
    going_on out' i' p' m' W z e =
        let s : rest b (m - 1) p' ≡ rest b (m - 1) (node_at b p).next = ap (rest b (m - 1)) z in
        rw e (record {
          ring = G.ring;
          list = ap (sets out' i') s ∙ ap₂ (λ (o : List ℕ) (j : ℕ). sets o j (rest b (m - 1) (node_at b p).next)) W.list W.place
              ∙ sym (ap (sets out i) more ∙ sets_append (under b p) (rest b (m - 1) (node_at b p).next) out i) ∙ G.list;
          room = omega (arith, W.place, lengths, G.room, ap length s);
          long = ap length W.list ∙ length-sets out i (under b p) ∙ G.long;
          inside = λ x j. G.inside x (rw (follow_more (node_at b) m p l) (there (subst (λ (y : ℕ). In (handle_at (node_at b) x) (nodes (follow (m - 1) (node_at b) y))) z j)));
        })
