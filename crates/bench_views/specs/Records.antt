-- Records of the words with two fields changed, an empty slot, and the ranges that words of a bench keep. Assumes nothing.
use Rattle.std.specs.Prelude.{None, Some, ℕ, ◌<◌, ◌≤◌, ◌≡◌, List, length}
use Rattle.kinds.specs.Names.{no_code}
use Rattle.kinds.specs.declared.GrowState.{GrowState}
use Rattle.kinds.specs.declared.GrowState.TheVariants.{Grow as Growing, Stay, Shrink}
use Rattle.kinds.specs.declared.Class.TheVariants.{Absent}
use Rattle.ledger_spec.specs.Numbers.{progress_limit}
use Rattle.bench_words.specs.Store.{interface_at, set_used, set_progress, set_sum, set_speed}
use Rattle.bench_words.specs.declared.Node.{Node}
use Rattle.bench_words.specs.declared.Interface.{Interface}

-- a share of the speed, one higher than it is
abbrev pub rate_of : GrowState → ℕ
rate_of Growing = 2
rate_of Stay = 1
rate_of Shrink = 0

-- with so many slots used and a speed; with a progress and a sum
abbrev pub with_used : Interface → ℕ → ℕ → Interface
with_used f n s = set_speed (set_used f n) s

abbrev pub with_growth : Interface → ℕ → ℕ → Interface
with_growth f p s = set_sum (set_progress f p) s

-- an empty slot: all words zero
abbrev pub no_node : Node
no_node =
    record {
      serial = record { 0 = 0 };
      class = Absent;
      state = Stay;
      parent = None;
      place = 0;
      next = 0;
      left = no_code;
      right = no_code;
      bias = 0;
      size = 0;
      first = 0;
      count = 0;
    }

-- ---- ranges
pub record Steady (b : List ℕ) : Type 0 where
  pub len : length b ≡ 6273
  pub slots : (u : ℕ) → u < 8 → (interface_at b u).used ≤ 64
  pub progress : (u : ℕ) → u < 8 → (interface_at b u).progress ≤ progress_limit
  pub rising : (u p : ℕ) → u < 8 → (interface_at b u).parent ≡ Some p → u < p

pub record Ranged (n : Node) : Type 0 where
  pub least : 576460752303423488 ≤ n.bias
  pub most : n.bias ≤ 2305843009213693952
