-- Along a circle: what is left of its list comes after what is put. Assumes nothing.
use Prim.Native.Nat.{ℕ, ◌-◌, ◌<◌}
use mathlib.Core.Path.{◌≡◌, refl, ap, sym, subst}
use mathlib.Core.Bool.{Bool}
use mathlib.Core.List.{List, [], ◌∷◌, ◌++◌, map}
use Rattle.bench_words.specs.Store.{node_at}
use Rattle.bench_words.specs.declared.Node.{Node}
use Rattle.kinds.specs.declared.Class.TheVariants.{Blossom}
use Rattle.ledger_spec.specs.Bench.{Member}
use Rattle.ledger_spec.specs.Knit.{In, here, there, nodes}
use Rattle.bench_views.specs.View.{view, handle_at, member_at, follow, circle_of}
use Rattle.bench_views.specs.Fit.{Fit}
use Rattle.bench_views.proofs.Slots.{follow_more, follow_none}
use Rattle.bench_vertices.specs.Under.{Placed}
use Rattle.bench_vertices.proofs.Circling.{member_placed}
use Rattle.picture_spec.specs.Sketch.{linked, index_of}
use Rattle.picture_spec.specs.Text.{comma, items, array}
use Rattle.picture_pieces.specs.Drawn.{Drawn}
use Rattle.picture_pieces.proofs.Drawing.{chain, Making, making, relabel, items_on, items_end, ends}
use Rattle.picture_circles.specs.Member.{member_text}

abbrev close : List ℕ
close = 93 ∷ []

-- the items of so many members from position p on, with i items before them
abbrev pub left : List ℕ → ℕ → Bool → ℕ → ℕ → ℕ → List ℕ
left b unit w i m p = items (member_text w) i (map (linked (index_of (view b) unit)) (follow m (node_at b) p)) ++ close

-- what holds at each turn; o and at are those after the opening bracket
pub record Going (b : List ℕ) (unit k : ℕ) (w : Bool) (o : List ℕ) (at : ℕ) (o' : List ℕ) (r p m i : ℕ) : Type 0 where
  pub text : Making o at (left b unit w 0 (node_at b k).count (node_at b k).first) (left b unit w i m p) o' r
  pub inside : (x : ℕ) → In (handle_at (node_at b) x) (nodes (follow m (node_at b) p)) → In (handle_at (node_at b) x) (nodes (circle_of (node_at b) k))

pub going_starts : (b : List ℕ) (unit k : ℕ) (w : Bool) (o : List ℕ) (at : ℕ) (n : Node) → n ≡ node_at b k → Going b unit k w o at o at n.first n.count 0
going_starts b unit k w o at n e = subst (λ (x : Node). Going b unit k w o at o at x.first x.count 0) (sym e) (record { text = making; inside = λ x j. j })

module _ (b : List ℕ) (unit k : ℕ) (w : Bool) (o : List ℕ) (at : ℕ) (o' : List ℕ) (r p m i : ℕ) (G : Going b unit k w o at o' r p m i) where
  module _ (F : Fit b) (P : Placed b k) (e : (node_at b k).class ≡ Blossom) (l : 0 < m) where
    pub next_placed : Placed b p
    next_placed = member_placed b F k P e p (G.inside p (rw (follow_more (node_at b) m p l) (here refl)))

  module _ (l : 0 < m) (o₁ : List ℕ) (q : ℕ) (o₂ : List ℕ) (s : ℕ) where
    pub going_on : Drawn o' r (comma i) o₁ q → Drawn o₁ q (member_text w (linked (index_of (view b) unit) (member_at (node_at b) p))) o₂ s → (p' : ℕ) → p' ≡ (node_at b p).next
        → Going b unit k w o at o₂ s p' (m - 1) 1
    going_on v d p' z = subst (λ (x : ℕ). Going b unit k w o at o₂ s x (m - 1) 1) (sym z) (record {
      text = items_on (member_text w) i (linked (index_of (view b) unit) (member_at (node_at b) p)) (map (linked (index_of (view b) unit)) (follow (m - 1) (node_at b) (node_at b p).next)) close
          (relabel (ap (λ (ms : List Member). items (member_text w) i (map (linked (index_of (view b) unit)) ms) ++ close) (follow_more (node_at b) m p l)) G.text) v d;
      inside = λ x j. G.inside x (rw (follow_more (node_at b) m p l) (there j));
    })

  pub going_ends : m ≡ 0 → (o₀ : List ℕ) (at₀ : ℕ) → Drawn o₀ at₀ (91 ∷ []) o at → (o₁ : List ℕ) (q : ℕ) → Drawn o' r close o₁ q
      → Drawn o₀ at₀ (array (member_text w) (map (linked (index_of (view b) unit)) (circle_of (node_at b) k))) o₁ q
  unfolding array
  going_ends z o₀ at₀ v o₁ q d =
      chain v (ends (items_end (member_text w) i close (relabel (ap (λ (ms : List Member). items (member_text w) i (map (linked (index_of (view b) unit)) ms) ++ close) (follow_none (node_at b) m p z)) G.text)) d)
