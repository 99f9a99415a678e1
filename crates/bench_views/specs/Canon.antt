-- Words of which each has exactly one meaning. Assumes nothing.
use Rattle.std.specs.Prelude.{None, Some, ℕ, zero, suc, ◌+◌, ◌-◌, ◌*◌, ◌%◌, ◌<◌, ◌≤◌, ◌≡◌, Bool, true, false, List, get_or, nat_abs}
use Rattle.bench_words.specs.Codec.{marks_word}
use Rattle.bench_words.specs.Store.{node_at, interface_at, map_at, base, ibase, interface_words, node_words}
use Rattle.slot_map.specs.Slots.{map_of}
use Rattle.kinds.specs.declared.Class.{Class}
use Rattle.kinds.specs.declared.Class.TheVariants.{Absent, Blossom, Defect}
use Rattle.kinds.specs.declared.Handle.{Handle as Packed}
use Rattle.kinds.specs.declared.Vertex.{Vertex}
use Rattle.bench_words.specs.declared.Node.{Node}
use Rattle.kinds.specs.Names.{no_code}
use Rattle.ledger_spec.specs.Bench.{Bench}
use Rattle.ledger_spec.specs.Bench as plain
use Rattle.ledger_spec.specs.Look.{slot_of}
use Rattle.bench_views.specs.Records.{Steady, no_node}
use Rattle.bench_views.specs.View.{by_class}

-- every value within 8 times the progress limit, as in a sound bench: then no bias is out of the way of T
abbrev pub Within : Bench → Type 0
Within B = (u s : ℕ) (n : plain.Node) → slot_of B u s ≡ Some n → nat_abs n.value ≤ 8796093022208

-- i steps along a circle
unfoldable pub walk : ℕ → (ℕ → Node) → ℕ → ℕ
walk zero A k = k
walk (suc i) A k = (A (walk i A k)).next

-- the node at k has its place in the circle of q
pub record Seated (b : List ℕ) (k : ℕ) (q : Packed) : Type 0 where
  pub unit : q.unit < 8
  pub slot : q.slot < (interface_at b q.unit).used
  pub ring : (node_at b (q.unit * 64 + q.slot)).class ≡ Blossom
  pub within : (node_at b k).place < (node_at b (q.unit * 64 + q.slot)).count
  pub seat : walk (node_at b k).place (node_at b) (node_at b (q.unit * 64 + q.slot)).first ≡ k
  pub last : (node_at b k).place + 1 ≡ (node_at b (q.unit * 64 + q.slot)).count → (node_at b k).next ≡ 0

pub record Alone (n : Node) : Type 0 where
  pub place : n.place ≡ 0
  pub next : n.next ≡ 0
  pub left : n.left ≡ no_code
  pub right : n.right ≡ no_code

-- does a slot hold a node; and which slots of interface u do
unfoldable pub is_held : Class → Bool
is_held c = by_class c false true (λ v. true)

abbrev pub held_in : (ℕ → Node) → ℕ → ℕ → Bool
held_in A u s = is_held (A (u * 64 + s)).class

-- every word is the code of what is loaded from it, and those of no record and no map are zero
pub record Coded (b : List ℕ) : Type 0 where
  pub spare : (m : ℕ) → 0 < m → m ≤ 128 → 9 ≤ (m - 1) % 16 → get_or b m 0 ≡ 0
  pub units : (u : ℕ) → u < 8 → (j : ℕ) → j < 7 → get_or b (ibase u + (1 + j)) 0 ≡ get_or (interface_words (interface_at b u)) j 0
  pub marks : (u : ℕ) → u < 8 → get_or b (ibase u + 9) 0 ≡ marks_word (interface_at b u).marks
  pub nodes : (k : ℕ) → k < 512 → (j : ℕ) → j < 12 → get_or b (base k + (1 + j)) 0 ≡ get_or (node_words (node_at b k)) j 0

pub record Canon (b : List ℕ) : Type 0 where
  pub steady : Steady b
  pub coded : Coded b
  -- the engine is the bench's
  pub modes : (u : ℕ) → u < 8 → (interface_at b u).marks.plain ≡ (interface_at b 0).marks.plain
  pub whole : (u : ℕ) → u < 8 → (interface_at b u).left ≡ 0 → (interface_at b u).right ≡ 0
  pub both : (u : ℕ) → u < 8 → ((interface_at b u).left ≡ 0 → ⊥) → 0 < (interface_at b u).right
  pub past : (u s : ℕ) → u < 8 → s < 64 → (interface_at b u).used ≤ s → node_at b (u * 64 + s) ≡ no_node
  -- the map of an interface is the map of its slots: it has no bit of its own
  pub map : (u : ℕ) → u < 8 → map_at b u ≡ map_of (held_in (node_at b) u) 64
  pub empty : (k : ℕ) → k < 512 → (node_at b k).class ≡ Absent → node_at b k ≡ no_node
  pub defect : (k : ℕ) (v : Vertex) → k < 512 → (node_at b k).class ≡ Defect v → ((node_at b k).first ≡ 0) × ((node_at b k).count ≡ 0)
  pub ring : (k : ℕ) → k < 512 → (node_at b k).class ≡ Blossom → 0 < (node_at b k).count
  pub chain : (k i : ℕ) → k < 512 → (node_at b k).class ≡ Blossom → i < (node_at b k).count → (node_at b (walk i (node_at b) (node_at b k).first)).place ≡ i
  pub alone : (k : ℕ) → k < 512 → (node_at b k).parent ≡ None → Alone (node_at b k)
  pub inside : (k : ℕ) (q : Packed) → k < 512 → (node_at b k).parent ≡ Some q → Seated b k q
