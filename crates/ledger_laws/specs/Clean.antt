-- What it is for a tree to pass the check: the sum is right, every vertex single, every touching handle passes the Rust's weak test; and the strict
-- check: each touching node of a blossom is under it. Assumes nothing.
use Rattle.std.specs.Prelude.{ℕ, ◌≡◌, true, false, List, get_or, None, Option, Some}
use Rattle.ledger_spec.specs.Bench.{Handle, Member, defect, blossom, Node, Bench}
use Rattle.ledger_spec.specs.Look.{interface, node_named}
use Rattle.ledger_spec.specs.Tests.{is_defect}
use Rattle.ledger_spec.specs.Walk.{parent_in, outermost}
use Rattle.ledger_spec.specs.Reads.{slots_of}
use Rattle.ledger_spec.specs.Check.{total_of}
use Rattle.ledger_spec.specs.Knit.{In}

-- a slot with its place
abbrev pub Entry : Type 0
Entry = ℕ × ℕ × Option Node

-- the vertex of a slot that holds a defect, and of the slot at an index
unfoldable pub vertex_of : Option Node → Option ℕ
vertex_of None = None
vertex_of (Some n) = elim n.class [ defect v ↦ Some v | blossom ms ↦ None ]

abbrev pub vertex_at : List Entry → ℕ → Option ℕ
vertex_at ts i = vertex_of (get_or ts i (0, 0, None)).2

-- t is a present node of m's outermost blossom
pub record Near (b : Bench) (m t : Handle) : Type 0 where
  pub node : Node
  pub present : node_named b t ≡ Some node
  pub outer : outermost b t ≡ outermost b m

-- the Rust's weak test of a member: a defect touches by itself, a blossom by nodes near it
pub record Weak (b : Bench) (m : Member) : Type 0 where
  pub defect : is_defect (node_named b m.node) ≡ true → (m.touch.0 ≡ m.node) × (m.touch.1 ≡ m.node)
  pub blossom : is_defect (node_named b m.node) ≡ false → Near b m.node m.touch.0 × Near b m.node m.touch.1

-- all but the sum
pub record Ordered (b : Bench) (u : ℕ) : Type 0 where
  pub single : (i j v : ℕ) → vertex_at (slots_of b u) i ≡ Some v → vertex_at (slots_of b u) j ≡ Some v → i ≡ j
  pub touching : (t : Entry) (n : Node) (ms : List Member) (m : Member) → In t (slots_of b u) → t.2 ≡ Some n → n.class ≡ blossom ms → In m ms → Weak b m

pub record Clean (b : Bench) (u : ℕ) : Type 0 where
  pub sum : (interface b u).sum ≡ total_of (slots_of b u)
  pub ordered : Ordered b u

-- t is under m: it is m, or its parent is under m
pub data Descends (b : Bench) (m : Handle) : Handle → Type 0 where
  itself : Descends b m m
  inside : {t : Handle} (p : Handle) → parent_in (node_named b t) ≡ Some p → Descends b m p → Descends b m t

pub record Strict (b : Bench) (u : ℕ) : Type 0 where
  pub clean : Clean b u
  pub under : (t : Entry) (n : Node) (ms : List Member) (m : Member) → In t (slots_of b u) → t.2 ≡ Some n → n.class ≡ blossom ms → In m ms
      → is_defect (node_named b m.node) ≡ false → Descends b m.node m.touch.0 × Descends b m.node m.touch.1
