-- A total with one slot's value added, as a number that stands 2^62 higher than it is. Assumes nothing.
use Rattle.std.specs.Prelude.{ℕ, ◌+◌, ◌/◌, ◌%◌, ◌≤◌, ◌≡◌, List, ◌+ℤ◌}
use Rattle.bench_words.specs.Codec.{sum_offset}
use Rattle.ledger_spec.specs.Look.{slot_of}
use Rattle.ledger_spec.specs.Change.{worth}
use Rattle.bench_views.specs.View.{off, view}

-- a value lies within 8 times the progress limit
pub record Added (b : List ℕ) (k sum r : ℕ) : Type 0 where
  pub value : off sum_offset r ≡ off sum_offset sum +ℤ worth (slot_of (view b) (k / 64) (k % 64))
  pub most : r ≤ sum + 8796093022208
  pub least : sum ≤ r + 8796093022208
