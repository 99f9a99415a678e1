-- The positions of a tree's slots, in the order of the index. Assumes nothing.
use Rattle.std.specs.Prelude.{ℕ, ◌+◌, ◌<◌, ◌≤◌, ◌≡◌, List, length, get_or}
use Rattle.ledger_spec.specs.Reads.{slots_of}
use Rattle.bench_views.specs.View.{view}
use Rattle.bench_orders.specs.Order.{AtIndex}

-- `many` numbers from `from` on stand after the first n, which are as they were
pub record Filled (was : List ℕ) (n from many : ℕ) (is : List ℕ) (r : ℕ) : Type 0 where
  pub count : r ≡ n + many
  pub long : length is ≡ 512
  pub old : (j : ℕ) → j < n → get_or is j 0 ≡ get_or was j 0
  pub new : (j : ℕ) → j < many → get_or is (n + j) 0 ≡ from + j

-- the first n of ps are the positions of all slots, each at its index
pub record Places (b : List ℕ) (unit : ℕ) (ps : List ℕ) (n : ℕ) : Type 0 where
  pub count : n ≡ length (slots_of (view b) unit)
  pub few : n ≤ 512
  pub long : length ps ≡ 512
  pub at : (k : ℕ) → k < n → AtIndex b unit k (get_or ps k 0)
