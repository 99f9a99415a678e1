-- A handle that names a node, and the node's position: the same vertices, as many as the size in the words. Assumes nothing.
use Prim.Native.Nat.{ℕ, ◌+◌, ◌/◌, ◌%◌, ◌<◌, ◌≤◌}
use mathlib.Core.Path.{◌≡◌, ap, sym, ◌∙◌, subst}
use mathlib.Core.List.{List, ◌++◌}
use native.Mathlib.Omega.{arith}
use lib.ListN.{length, drop}
use lib.Seq.{sets-eq}
use Rattle.bench_words.specs.Store.{node_at, interface_at}
use Rattle.ledger_spec.specs.Bench.{Handle}
use Rattle.ledger_spec.specs.Look.{node_named}
use Rattle.ledger_spec.specs.Deeds.{size_of}
use Rattle.ledger_spec.specs.Walk.{vertices_of}
use Rattle.ledger_spec.proofs.Walks.{as_many}
use Rattle.bench_views.specs.View.{view, handle_at, node_seen, sum_up}
use Rattle.bench_views.specs.Fit.{Fit}
use Rattle.bench_links.specs.Find.{spot, Stands, Held}
use Rattle.bench_links.proofs.Rising.{seen_node}
use Rattle.bench_vertices.specs.Under.{Placed, under, Wrote}

module _ (b : List ℕ) (h : Handle) (S : Stands b h) where
  unit_is : spot h / 64 ≡ h.unit
  unit_is = let l = S.low in omega arith

  slot_is : spot h % 64 ≡ h.slot
  slot_is = let l = S.low in omega arith

  pub placed_at : Placed b (spot h)
  placed_at =
      let u = S.unit in
      let l = S.low in
      record {
        low = omega arith;
        used = subst (λ (v : ℕ). spot h % 64 < (interface_at b v).used) (sym unit_is) (omega (arith, slot_is, S.slot));
        present = S.present;
      }

  handle_at_lem : handle_at (node_at b) (spot h) ≡ h
  handle_at_lem = λ i. record { unit = unit_is i; slot = slot_is i; serial = S.serial i }

  pub under_at : under b (spot h) ≡ vertices_of (view b) h
  under_at = ap (vertices_of (view b)) handle_at_lem

  pub size_at : size_of (node_named (view b) h) ≡ (node_at b (spot h)).size
  size_at = ap size_of (seen_node b h S).1

  pub as_many_at : Fit b → length (vertices_of (view b) h) ≡ (node_at b (spot h)).size
  as_many_at F = as_many (view b) F.facts h (node_seen (node_at b (spot h)) (sum_up 8 (interface_at b) h.unit) (seen_node b h S).0) (seen_node b h S).1

-- ---- by the position that was found
module _ (b : List ℕ) (h : Handle) (k : ℕ) (H : Held b h k) where
  pub held_placed : Placed b k
  held_placed = subst (λ (x : ℕ). Placed b x) (sym H.place) (placed_at b h H.stands)

  pub held_under : under b k ≡ vertices_of (view b) h
  held_under = ap (under b) H.place ∙ under_at b h H.stands

  pub held_size : size_of (node_named (view b) h) ≡ (node_at b k).size
  held_size = size_at b h H.stands ∙ ap (λ (x : ℕ). (node_at b x).size) (sym H.place)

  pub held_many : Fit b → length (vertices_of (view b) h) ≡ (node_at b k).size
  held_many F = as_many_at b h H.stands F ∙ ap (λ (x : ℕ). (node_at b x).size) (sym H.place)

-- what is written from the front on
pub wrote_front : (vs out after : List ℕ) (next : ℕ) → length vs ≤ length out → Wrote vs 0 out after next → (next ≡ length vs) × (after ≡ vs ++ drop (length vs) out)
wrote_front vs out after next l W =
    let z : 0 + length vs ≡ length vs = omega arith in
    (W.place ∙ z, W.list ∙ sets-eq vs out 0 (omega arith) ∙ ap (λ (n : ℕ). vs ++ drop n out) z)
