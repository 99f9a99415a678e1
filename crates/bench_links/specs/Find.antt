-- What finding a node by its handle says. Assumes nothing.
use Rattle.std.specs.Prelude.{None, Option, Some, ℕ, ◌+◌, ◌*◌, ◌<◌, ◌≡◌, Bool, true, false, List}
use Rattle.bench_words.specs.Store.{node_at, interface_at}
use Rattle.kinds.specs.declared.Class.{Class}
use Rattle.kinds.specs.declared.Class.TheVariants.{Absent, Blossom, Defect}
use Rattle.ledger_spec.specs.Bench.{Handle}
use Rattle.ledger_spec.specs.Look.{node_named}
use Rattle.bench_views.specs.View.{view, slot_seen, sum_up, circle_of}

abbrev pub absent_of : Class → Bool
absent_of Absent = true
absent_of Blossom = false
absent_of (Defect v) = false

-- a handle's position among the slots
abbrev pub spot : Handle → ℕ
spot h = h.unit * 64 + h.slot

-- the handle names a present node: it stands in a used slot, and is what the ledger has by the handle
pub record Stands (b : List ℕ) (h : Handle) : Type 0 where
  pub unit : h.unit < 8
  pub slot : h.slot < (interface_at b h.unit).used
  pub low : h.slot < 64
  pub present : (node_at b (spot h)).class ≡ Absent → ⊥
  pub serial : (node_at b (spot h)).serial.0 ≡ h.serial
  pub seen : node_named (view b) h ≡ slot_seen (node_at b (spot h)) (sum_up 8 (interface_at b) h.unit) (circle_of (node_at b) (spot h))

pub record Held (b : List ℕ) (h : Handle) (k : ℕ) : Type 0 where
  pub place : k ≡ spot h
  pub low : k < 512
  pub stands : Stands b h

-- the ledger's node by a handle, or none
abbrev pub Finds : List ℕ → Handle → Option ℕ → Type 0
Finds b h (Some k) = Held b h k
Finds b h None = node_named (view b) h ≡ None
