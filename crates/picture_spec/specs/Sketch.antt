-- What a picture shows of an interface: its speed and its sum, and of each slot of its tree by index nothing, or a node with others named by their index.
-- Assumes nothing.
use Rattle.std.specs.Prelude.{ℕ, List, map, ℤ, None, Option, Some}
use Rattle.ledger_spec.specs.Bench.{Handle, State, Member, Class, defect, blossom, Node, Bench}
use Rattle.ledger_spec.specs.Look.{interface}
use Rattle.ledger_spec.specs.Reads.{slots_of}
use Rattle.ledger_spec.specs.Check.{index_in}

-- a member of a circle: its index, and those of the two nodes that it touches by
abbrev pub Linked : Type 0
Linked = ℕ × (ℕ × ℕ)

pub data Shape : Type 0 where
  vertex : ℕ → Shape
  circle : List Linked → Shape

pub record Seen : Type 0 where
  pub shape : Shape
  pub state : State
  pub parent : Option ℕ

pub record Sketch : Type 0 where
  pub speed : ℤ
  pub sum : ℤ
  pub nodes : List (Option Seen)

-- ---- by the index that a handle has

module _ (at : Handle → ℕ) where
  abbrev pub linked : Member → Linked
  linked m = (at m.node, (at m.touch.0, at m.touch.1))

  unfoldable pub shape_of : Class → Shape
  shape_of (defect v) = vertex v
  shape_of (blossom ms) = circle (map linked ms)

  abbrev pub indexed : Option Handle → Option ℕ
  indexed None = None
  indexed (Some h) = Some (at h)

  unfoldable pub seen_of : Option Node → Option Seen
  seen_of None = None
  seen_of (Some n) = Some (record { shape = shape_of n.class; state = n.state; parent = indexed n.parent })

-- the index of a handle's place among the slots of u's tree
abbrev pub index_of : Bench → ℕ → Handle → ℕ
index_of b u h = index_in (slots_of b u) 0 h

abbrev pub slot_seen_by : Bench → ℕ → ℕ × ℕ × Option Node → Option Seen
slot_seen_by b u t = seen_of (index_of b u) t.2

unfoldable pub sketch_of : Bench → ℕ → Sketch
sketch_of b u = record { speed = (interface b u).speed; sum = (interface b u).sum; nodes = map (slot_seen_by b u) (slots_of b u) }
