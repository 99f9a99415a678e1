-- Words of which each names a node: what a test for one given twice may rely on. Assumes nothing.
use Rattle.std.specs.Prelude.{ℕ, ◌<◌, ◌≡◌, List, length, get_or}
use Rattle.bench_words.specs.Codec.{past_handles}
use Rattle.ledger_spec.specs.Knit.{In}
use Rattle.deed_circles.specs.Given.{spot_of}

-- they are packed handles, and a position has one
pub record Placed (ws : List ℕ) : Type 0 where
  pub sure : (w : ℕ) → In w ws → w < past_handles
  pub apart : (v w : ℕ) → In v ws → In w ws → spot_of v ≡ spot_of w → v ≡ w

-- a mark for each position, none set
pub record Blank (seen : List ℕ) : Type 0 where
  pub long : length seen ≡ 512
  pub none : (k : ℕ) → get_or seen k 0 ≡ 0
