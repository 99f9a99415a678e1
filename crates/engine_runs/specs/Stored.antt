-- What a node's stored word is in the plain engine, and how a growth moves it: for who wants to see values being added. Assumes nothing.
use Rattle.std.specs.Prelude.{ℕ, ◌+◌, ◌*◌, ◌≡◌, ◌≢◌, List, ℤ, ◌+ℤ◌, ◌*ℤ◌, Some}
use Rattle.bench_words.specs.Codec.{value_offset}
use Rattle.bench_words.specs.Store.{node_at}
use Rattle.ledger_spec.specs.Bench.{Node, rate}
use Rattle.ledger_spec.specs.Look.{slot_of, top}
use Rattle.bench_views.specs.View.{off, view}

-- the number that stands for slot s of interface u, less its fixed offset
abbrev pub stored_in : List ℕ → ℕ → ℕ → ℤ
stored_in b u s = off value_offset (node_at b (u * 64 + s)).bias

-- it is the value of each present node
abbrev pub HeldAsNumbers : List ℕ → Type 0
HeldAsNumbers b = (u s : ℕ) (n : Node) → slot_of (view b) u s ≡ Some n → stored_in b u s ≡ n.value

-- a growth of the tree of t by l adds l, 0 or -l to it in every interface of that tree, fused halves included, and to no other
pub record GrewAsNumbers (b : List ℕ) (t : ℕ) (l : ℤ) (b' : List ℕ) : Type 0 where
  pub under : (u s : ℕ) (n : Node) → slot_of (view b) u s ≡ Some n → top (view b) u ≡ t → stored_in b' u s ≡ stored_in b u s +ℤ l *ℤ rate n.state
  pub apart : (u s : ℕ) (n : Node) → slot_of (view b) u s ≡ Some n → top (view b) u ≢ t → stored_in b' u s ≡ stored_in b u s
