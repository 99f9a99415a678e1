-- The vertices under the node at a position, and what writing them leaves. Assumes nothing.
use Rattle.std.specs.Prelude.{ℕ, ◌+◌, ◌/◌, ◌%◌, ◌<◌, ◌≡◌, List, length}
use Rattle.std.proofs.lemmas.List.Edits.{sets}
use Rattle.bench_words.specs.Store.{node_at, interface_at}
use Rattle.kinds.specs.declared.Class.TheVariants.{Absent}
use Rattle.ledger_spec.specs.Walk.{vertices_of}
use Rattle.bench_views.specs.View.{view, handle_at}

-- a present node stands at position k
pub record Placed (b : List ℕ) (k : ℕ) : Type 0 where
  pub low : k < 512
  pub used : k % 64 < (interface_at b (k / 64)).used
  pub present : (node_at b k).class ≡ Absent → ⊥

abbrev pub under : List ℕ → ℕ → List ℕ
under b k = vertices_of (view b) (handle_at (node_at b) k)

-- the vertices vs stand in the list from `at` on, all else is as it was, and `next` is the place after them
pub record Wrote (vs : List ℕ) (at : ℕ) (out after : List ℕ) (next : ℕ) : Type 0 where
  pub place : next ≡ at + length vs
  pub list : after ≡ sets out at vs
