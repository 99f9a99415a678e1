-- The indices of a tree's slots, by their positions. Assumes nothing.
use Rattle.std.specs.Prelude.{ℕ, ◌+◌, ◌*◌, ◌<◌, ◌≡◌, List, length, get_or}
use Rattle.ledger_spec.specs.Bench.{Handle}
use Rattle.picture_spec.specs.Sketch.{index_of}
use Rattle.bench_views.specs.View.{view}

-- t has at each position the index of a handle that names it
pub record Indices (b : List ℕ) (unit : ℕ) (t : List ℕ) : Type 0 where
  pub long : length t ≡ 512
  pub at : (h : Handle) → h.unit < 8 → h.slot < 64 → get_or t (h.unit * 64 + h.slot) 0 ≡ index_of (view b) unit h
