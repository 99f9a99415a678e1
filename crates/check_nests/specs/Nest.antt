-- Where a node lies in its outermost blossom: how many vertices come before its own, circle by circle. And what a table of that says of a bench.
-- Assumes nothing.
use Rattle.std.specs.Prelude.{ℕ, ◌+◌, ◌-◌, ◌/◌, ◌%◌, ◌<◌, ◌≡◌, true, false, List, [], ◌∷◌, length, get_or, None, Some}
use Rattle.bench_words.specs.Store.{node_at}
use Rattle.ledger_spec.specs.Bench.{Handle, Bench}
use Rattle.ledger_spec.specs.Look.{node_named, same_handle}
use Rattle.ledger_spec.specs.Deeds.{size_of, members}
use Rattle.ledger_spec.specs.Walk.{parent_in}
use Rattle.bench_views.specs.View.{view, handle_at}
use Rattle.bench_vertices.specs.Under.{Placed}

-- the vertices of the members that come before h
unfoldable pub before : Bench → Handle → List Handle → ℕ
before b h [] = 0
before b h (g ∷ gs) = elim (same_handle h g) [ true ↦ 0 | false ↦ size_of (node_named b g) + before b h gs ]

-- parents lead from h to r, which has none, and x vertices of r come before those of h
pub data Lies (b : Bench) (r : Handle) : Handle → ℕ → Type 0 where
  outer : {x : ℕ} → parent_in (node_named b r) ≡ None → x ≡ 0 → Lies b r r x
  inner : {h : Handle} {x y : ℕ} (p : Handle) → parent_in (node_named b h) ≡ Some p → Lies b r p y → x ≡ y + before b h (members (node_named b p)) → Lies b r h x

-- the word of a slot that has one: the position of its node's outermost blossom, 512 times the vertices before the node's own, and one
pub record Noted (b : List ℕ) (k w : ℕ) : Type 0 where
  pub here : Placed b k
  pub root : Placed b ((w - 1) % 512)
  pub lies : Lies (view b) (handle_at (node_at b) ((w - 1) % 512)) (handle_at (node_at b) k) ((w - 1) / 512)

-- a slot's word is 0, or true
pub record Nests (b t : List ℕ) : Type 0 where
  pub long : length t ≡ 512
  pub noted : (k : ℕ) → k < 512 → 0 < get_or t k 0 → Noted b k (get_or t k 0)
