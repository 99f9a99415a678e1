-- One member more of a circle is noted: it lies behind the vertices of the members before it, and all words stay true. Assumes nothing.
use Rattle.std.specs.Prelude.{Some}
use Prim.Native.Nat.{ℕ, zero, suc, ◌+◌, ◌-◌, ◌*◌, ◌/◌, ◌%◌, ◌<◌, ◌≤◌}
use mathlib.Core.Path.{◌≡◌, refl, ap, sym, ◌∙◌, subst}
use mathlib.Core.Logic.{by_cases}
use mathlib.Core.Bool.{Bool, true, false, true≢false}
use mathlib.Core.List.{List, [], ◌∷◌}
use native.Mathlib.Decide.{ℕ_discrete}
use native.Mathlib.Omega.{arith}
use lib.ListN.{get_or, set, length-set}
use lib.Seq.{get_or-set_same, get_or-set_other}
use Rattle.bench_words.specs.Store.{node_at, interface_at}
use Rattle.bench_words.specs.declared.Node.{Node}
use Rattle.kinds.specs.declared.Class.{Class}
use Rattle.kinds.specs.declared.Class.TheVariants.{Absent, Blossom, Defect}
use Rattle.ledger_spec.specs.Bench.{Handle, Member}
use Rattle.ledger_spec.specs.Look.{node_named, same_handle}
use Rattle.ledger_spec.specs.Deeds.{size_of, members}
use Rattle.ledger_spec.specs.SoundTree.{tally}
use Rattle.ledger_spec.specs.Walk.{parent_in}
use Rattle.ledger_spec.specs.Knit.{In, here, there, nodes}
use Rattle.ledger_spec.proofs.Lists.{map_in, not_in_nil, tally_yes, tally_no, tally_none}
use Rattle.ledger_spec.proofs.Knit.{same_self}
use Rattle.ledger_spec.proofs.Passed.{node_has}
use Rattle.ledger_spec.proofs.Walks.{Inner, inner as inner_of}
use Rattle.bench_views.specs.View.{view, handle_at, follow, circle_of, sum_up}
use Rattle.bench_views.specs.Fit.{Fit}
use Rattle.bench_views.proofs.Rings.{Blossoms, slot_blossom}
use Rattle.bench_views.proofs.Slots.{follow_more, follow_none}
use Rattle.bench_links.specs.Find.{spot}
use Rattle.bench_links.proofs.Rising.{seen_some}
use Rattle.bench_vertices.specs.Under.{Placed}
use Rattle.bench_vertices.proofs.Circling.{standing, shown, member_placed}
use Rattle.bench_vertices.proofs.Named.{size_at}
use Rattle.check_nests.specs.Nest.{before, Lies, inner, Noted, Nests}
use Rattle.check_nests.proofs.Lying.{before_here, before_past, part, lies_within}

-- ---- a table with one word more
pub nests_set : (b t : List ℕ) (k w : ℕ) → k < 512 → Nests b t → Noted b k w → Nests b (set t k w)
nests_set b t k w l N H = record {
  long = length-set t k w ∙ N.long;
  noted = λ j i z. by_cases (ℕ_discrete j k)
      (λ (e : j ≡ k). subst (λ (x : ℕ). Noted b x (get_or (set t k w) x 0)) (sym e) (subst (Noted b k) (sym (get_or-set_same t k w 0 (omega (arith, N.long, l)))) H))
      (λ (e : j ≡ k → ⊥). let o = get_or-set_other t k j w 0 e in subst (Noted b j) (sym o) (N.noted j i (omega (arith, o, z))));
}

-- ---- sizes in words
module _ (b : List ℕ) (F : Fit b) (k : ℕ) (P : Placed b k) where
  pub size_seen : size_of (node_named (view b) (handle_at (node_at b) k)) ≡ (node_at b k).size
  size_seen = let e : spot (handle_at (node_at b) k) ≡ k = omega arith in size_at b (handle_at (node_at b) k) (standing b F k P) ∙ ap (λ (x : ℕ). (node_at b x).size) e

  pub size_small : size_of (node_named (view b) (handle_at (node_at b) k)) ≤ 512
  size_small =
      let s = seen_some b (handle_at (node_at b) k) (standing b F k P) in
      omega (arith, ap size_of s.1, F.size (k / 64) (k % 64) s.0 (node_has (view b) (handle_at (node_at b) k) s.0 s.1).stands)

-- ---- what holds at each turn: m members from position p on are left of the circle of k
abbrev left : List ℕ → ℕ → ℕ → List Handle
left b m p = nodes (follow m (node_at b) p)

abbrev circle : List ℕ → ℕ → List Handle
circle b k = nodes (circle_of (node_at b) k)

pub record Going (b : List ℕ) (k w root x p m : ℕ) (t : List ℕ) : Type 0 where
  pub fit : Fit b
  pub own : Noted b k w
  pub rooted : root ≡ (w - 1) % 512
  pub nests : Nests b t
  pub small : x ≤ 512
  pub place : (g : Handle) → In g (left b m p) → x + before (view b) g (left b m p) ≡ (w - 1) / 512 + before (view b) g (circle b k)
  pub once : (g : Handle) → tally (same_handle g) (left b m p) ≤ tally (same_handle g) (circle b k)
  pub inside : (g : Handle) → In g (left b m p) → In g (circle b k)

pub going_starts : (b : List ℕ) (k w : ℕ) (t : List ℕ) → Fit b → k < 512 → Nests b t → w ≡ get_or t k 0 → 0 < w → (n : Node) → n ≡ node_at b k → Going b k w ((w - 1) % 512) ((w - 1) / 512) n.first n.count t
going_starts b k w t F l N e z n q = subst (λ (y : Node). Going b k w ((w - 1) % 512) ((w - 1) / 512) y.first y.count t) (sym q) (record {
  fit = F;
  own = own;
  rooted = refl;
  nests = N;
  small = omega (arith, lies_within (view b) F.facts own.lies, size_small b F ((w - 1) % 512) own.root);
  place = λ g i. refl;
  once = λ g. omega arith;
  inside = λ g i. i;
})
  where
    own : Noted b k w
    own = subst (Noted b k) (sym e) (N.noted k l (omega (arith, e, z)))

module _ {b : List ℕ} {k w root x p m : ℕ} {t : List ℕ} (G : Going b k w root x p m t) (l : 0 < m) where
  abbrev A : ℕ → Node
  A = node_at b

  F : Fit b
  F = G.fit

  more : left b m p ≡ handle_at A p ∷ left b (m - 1) (A p).next
  more = ap nodes (follow_more A m p l)

  head : In (handle_at A p) (left b m p)
  head = rw more (here refl)

  -- only a blossom has members
  ring : (A k).class ≡ Blossom
  ring = go (A k).class refl
    where
      go : (c : Class) → (A k).class ≡ c → (A k).class ≡ Blossom
      go Absent e = absurd (G.own.here.present e)
      go Blossom e = e
      go (Defect v) e =
          let none : circle b k ≡ [] = ap nodes (follow_none A (A k).count (A k).first (F.canon.defect k v G.own.here.low e).1) in
          absurd (not_in_nil {x = handle_at A p} (subst (In (handle_at A p)) none (G.inside (handle_at A p) head)))

  pub next_placed : Placed b p
  next_placed = member_placed b F k G.own.here ring p (G.inside (handle_at A p) head)

  -- the circle as the ledger has it, and what its members have for parent
  B : Blossoms (A k) (sum_up 8 (interface_at b) (k / 64)) (circle_of A k)
  B = slot_blossom (A k) (sum_up 8 (interface_at b) (k / 64)) (circle_of A k) ring

  is : node_named (view b) (handle_at A k) ≡ Some B.node
  is = shown b F k G.own.here ∙ B.shown

  listed : members (node_named (view b) (handle_at A k)) ≡ circle b k
  listed = rw (is, B.class, members)

  parent : (g : Handle) → In g (circle b k) → parent_in (node_named (view b) g) ≡ Some (handle_at A k)
  parent g i =
      let m = map_in (λ (y : Member). y.node) (circle_of A k) i in
      let N : Inner (view b) (handle_at A k) m.0.node = inner_of (view b) F.facts (handle_at A k) B.node (circle_of A k) is B.class m.0 m.1 in
      ap (λ (h : Handle). parent_in (node_named (view b) h)) m.2 ∙ ap parent_in N.is ∙ N.parent

  -- the member at p
  lies : Lies (view b) (handle_at A ((w - 1) % 512)) (handle_at A p) x
  lies = inner {x = x} (handle_at A k) (parent (handle_at A p) (G.inside (handle_at A p) head)) G.own.lies
      (omega (arith, G.place (handle_at A p) head, ap (before (view b) (handle_at A p)) more, before_here (view b) (handle_at A p) (handle_at A p) (left b (m - 1) (A p).next) (same_self (handle_at A p)), ap (before (view b) (handle_at A p)) listed))

  word : Noted b p (x * 512 + root + 1)
  word =
      let r = G.rooted in
      let e : (x * 512 + root + 1 - 1) % 512 ≡ (w - 1) % 512 = omega arith in
      let f : (x * 512 + root + 1 - 1) / 512 ≡ x = omega arith in
      record {
        here = next_placed;
        root = subst (Placed b) (sym e) G.own.root;
        lies = subst (λ (y : ℕ). Lies (view b) (handle_at A ((x * 512 + root + 1 - 1) % 512)) (handle_at A p) y) (sym f) (subst (λ (y : ℕ). Lies (view b) (handle_at A y) (handle_at A p) x) (sym e) lies);
      }

  abbrev next : ℕ
  next = (A p).next

  pub next_small : x + (A p).size ≤ 512
  next_small = omega (arith, lies_within (view b) F.facts lies, size_seen b F p next_placed, size_small b F ((w - 1) % 512) G.own.root)

  -- a member that comes later is another
  other : (g : Handle) → In g (left b (m - 1) next) → same_handle g (handle_at A p) ≡ false
  other g i = go (same_handle g (handle_at A p)) refl
    where
      inside : In g (circle b k)
      inside = G.inside g (rw more (there i))

      again : (n : ℕ) → tally (same_handle g) (left b (m - 1) next) ≡ n → 0 < n
      again zero z = absurd (true≢false (sym (same_self g) ∙ tally_none (same_handle g) (left b (m - 1) next) z i))
      again (suc n) z = omega arith

      go : (c : Bool) → same_handle g (handle_at A p) ≡ c → same_handle g (handle_at A p) ≡ false
      go false e = e
      go true e = absurd (omega (
        arith,
        again (tally (same_handle g) (left b (m - 1) next)) refl,
        G.once g,
        ap (tally (same_handle g)) more,
        tally_yes (same_handle g) (handle_at A p) (left b (m - 1) next) e,
        (part (view b) F.facts g (handle_at A k) (parent g inside)).once,
        ap (tally (same_handle g)) listed,
      ))

  fewer : (g : Handle) → tally (same_handle g) (left b (m - 1) next) ≤ tally (same_handle g) (left b m p)
  fewer g = go (same_handle g (handle_at A p)) refl
    where
      go : (c : Bool) → same_handle g (handle_at A p) ≡ c → tally (same_handle g) (left b (m - 1) next) ≤ tally (same_handle g) (left b m p)
      go true e = omega (arith, ap (tally (same_handle g)) more, tally_yes (same_handle g) (handle_at A p) (left b (m - 1) next) e)
      go false e = omega (arith, ap (tally (same_handle g)) more, tally_no (same_handle g) (handle_at A p) (left b (m - 1) next) e)

  pub going_on : (y : Node) → y ≡ A p → Going b k w root (x + y.size) y.next (m - 1) (set t p (x * 512 + root + 1))
  going_on y e = subst (λ (z : Node). Going b k w root (x + z.size) z.next (m - 1) (set t p (x * 512 + root + 1))) (sym e) (record {
    fit = F;
    own = G.own;
    rooted = G.rooted;
    nests = nests_set b t p (x * 512 + root + 1) next_placed.low G.nests word;
    small = next_small;
    place = λ g i. omega (arith, G.place g (rw more (there i)), ap (before (view b) g) more, before_past (view b) g (handle_at A p) (left b (m - 1) next) (other g i), size_seen b F p next_placed);
    once = λ g. omega (arith, fewer g, G.once g);
    inside = λ g i. G.inside g (rw more (there i));
  })
