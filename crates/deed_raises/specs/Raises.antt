-- What the plain engine's growth does to the words: every node of a tree raised, and nothing else. Assumes nothing.
use Rattle.std.specs.Prelude.{ℕ, ◌+◌, ◌*◌, ◌/◌, ◌<◌, ◌≤◌, ◌≡◌, List, eqb, get_or}
use Rattle.kinds.specs.declared.GrowState.{GrowState}
use Rattle.kinds.specs.declared.GrowState.TheVariants.{Grow as Growing, Shrink}
use Rattle.bench_words.specs.Codec.{pick}
use Rattle.bench_words.specs.Store.{node_at, interface_at, map_at}
use Rattle.ledger_spec.specs.Look.{climb}
use Rattle.bench_views.specs.Records.{Steady, no_node}
use Rattle.bench_views.specs.View.{view, raised}
use Rattle.bench_views.specs.Canon.{Coded}

-- the value can move by l
pub record Movable (g : GrowState) (v l : ℕ) : Type 0 where
  pub up : g ≡ Growing → v + l < 18446744073709551616
  pub down : g ≡ Shrink → l ≤ v

-- those of the used slots of interface v
abbrev pub AllMovable : List ℕ → ℕ → ℕ → Type 0
AllMovable b l v = (s : ℕ) → s < (interface_at b v).used → Movable (node_at b (v * 64 + s)).state (node_at b (v * 64 + s)).bias l

abbrev pub TreeMovable : List ℕ → ℕ → Type 0
TreeMovable b l = (v : ℕ) → v < 8 → AllMovable b l v

-- slots that are not used are empty
abbrev pub Bare : List ℕ → Type 0
Bare b = (v s : ℕ) → v < 8 → s < 64 → (interface_at b v).used ≤ s → node_at b (v * 64 + s) ≡ no_node

-- b' is b with the first n slots of interface v raised by l
pub record RaisedIn (b : List ℕ) (v l : ℕ) (b' : List ℕ) (n : ℕ) : Type 0 where
  pub steady : Steady b'
  pub coded : Coded b'
  pub next : get_or b' 0 0 ≡ get_or b 0 0
  pub interfaces : (w : ℕ) → w < 8 → interface_at b' w ≡ interface_at b w
  pub maps : (w : ℕ) → w < 8 → map_at b' w ≡ map_at b w
  pub done : (s : ℕ) → s < n → node_at b' (v * 64 + s) ≡ raised l (node_at b (v * 64 + s))
  pub kept : (k : ℕ) → ((s : ℕ) → s < n → k ≡ v * 64 + s → ⊥) → node_at b' k ≡ node_at b k

-- all of its used slots, if it is of u's tree; nothing else
pub record RaisedUnder (b : List ℕ) (u v l : ℕ) (b' : List ℕ) : Type 0 where
  pub taken : climb 8 (view b) v ≡ u → RaisedIn b v l b' (interface_at b v).used
  pub left : (climb 8 (view b) v ≡ u → ⊥) → b' ≡ b

-- b' is b with the first n nodes raised, as far as they are of u's tree
pub record Raised (b : List ℕ) (u l : ℕ) (b' : List ℕ) (n : ℕ) : Type 0 where
  pub steady : Steady b'
  pub coded : Coded b'
  pub next : get_or b' 0 0 ≡ get_or b 0 0
  pub interfaces : (v : ℕ) → v < 8 → interface_at b' v ≡ interface_at b v
  pub maps : (v : ℕ) → v < 8 → map_at b' v ≡ map_at b v
  pub done : (k : ℕ) → k < n → node_at b' k ≡ pick (eqb (climb 8 (view b) (k / 64)) u) (raised l (node_at b k)) (node_at b k)
  pub kept : (k : ℕ) → n ≤ k → node_at b' k ≡ node_at b k
