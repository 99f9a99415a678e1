-- Least values, as numbers that stand 2^60 higher than they are: what is below such a number by a length l. Assumes nothing.
use Rattle.std.specs.Prelude.{ℕ, ◌+◌, ◌/◌, ◌%◌, ◌<◌, ◌≡◌, Bool, ◌||◌, List, ltb, pos}
use Rattle.bench_words.specs.Codec.{value_offset}
use Rattle.ledger_spec.specs.Look.{interface, slot_of}
use Rattle.ledger_spec.specs.Tests.{any, sinks, below}
use Rattle.bench_views.specs.View.{view}

-- a growth by l takes the value m below 0
abbrev pub sunk : ℕ → ℕ → Bool
sunk m l = ltb m (value_offset + l)

-- r is the lower of m and the value in a slot, if a node shrinks there; of m and those of an interface
pub record Lower (b : List ℕ) (k m r : ℕ) : Type 0 where
  pub is : (l : ℕ) → sunk r l ≡ (sunk m l || sinks (pos l) (slot_of (view b) (k / 64) (k % 64)))

pub record LowerIn (b : List ℕ) (u m r : ℕ) : Type 0 where
  pub is : (l : ℕ) → sunk r l ≡ (sunk m l || any (sinks (pos l)) (interface (view b) u).slots)

-- r is the lowest of the tree: growing by a length is refused by BELOW exactly where it takes r below 0
pub record Lowest (b : List ℕ) (unit r : ℕ) : Type 0 where
  pub is : (l : ℕ) → l < 9223372036854775808 → below (view b) unit (pos l) ≡ sunk r l

-- r is the least value itself: exactly a growth by more is refused by BELOW
pub record Least (b : List ℕ) (unit r : ℕ) : Type 0 where
  pub is : (l : ℕ) → l < 9223372036854775808 → below (view b) unit (pos l) ≡ ltb r l
