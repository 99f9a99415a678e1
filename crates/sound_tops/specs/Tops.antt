-- The tests of the sum and the speed of an interface without a parent. Assumes nothing.
use Rattle.std.specs.Prelude.{ℕ, ◌+◌, ◌-◌, ◌*◌, Bool, true, ◌&&◌, List, eqb}
use Rattle.bench_words.specs.Codec.{sum_offset, pick}
use Rattle.bench_words.specs.Store.{node_at, interface_at}
use Rattle.bench_words.specs.declared.Interface.{Interface}
use Rattle.ledger_spec.specs.Look.{climb}
use Rattle.bench_views.specs.Records.{rate_of}
use Rattle.bench_views.specs.View.{over, view}
use Rattle.sound_trees.specs.Below.{sum_to, between}
use Rattle.sound_trees.specs.Width.{width_of}

-- the share of slot s of interface u, one higher than it is
abbrev pub rate_in : List ℕ → ℕ → ℕ → ℕ
rate_in b u s = rate_of (node_at b (u * 64 + s)).state

-- the shares of u, if it climbs to i, 64 higher than they are
unfoldable pub pace_under : List ℕ → ℕ → ℕ → ℕ
pace_under b i u = pick (eqb (climb 8 (view b) u) i) (sum_to (rate_in b u) (interface_at b u).used + (64 - (interface_at b u).used)) 64

-- the speed of the tree of i, 512 higher than it is
unfoldable pub pace_of : List ℕ → ℕ → ℕ
pace_of b i = sum_to (pace_under b i) 8

-- the interface f with number i: a sum within 512 W, and the tree's speed
unfoldable pub top_in : List ℕ → ℕ → Interface → Bool
top_in b i f = over f.parent (between sum_offset (width_of b i * 512) f.sum && eqb f.speed (512 + pace_of b i)) (λ p. true)

abbrev pub top_test : List ℕ → ℕ → Bool
top_test b i = top_in b i (interface_at b i)
