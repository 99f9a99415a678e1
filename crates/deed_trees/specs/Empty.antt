-- An interface put under a parent, the parent of a fuse, and what emptying slots does to the words. Assumes nothing.
use Rattle.std.specs.Prelude.{Some, ℕ, ◌+◌, ◌-◌, ◌*◌, ◌<◌, ◌≡◌, ◌≢◌, false, List, get_or}
use Rattle.bench_words.specs.Codec.{sum_offset, speed_offset}
use Rattle.bench_words.specs.Store.{node_at, interface_at, map_at, set_sum, set_speed, set_parent, set_halves, set_marks, set_floored, no_interface}
use Rattle.bench_words.specs.declared.Interface.{Interface}
use Rattle.bench_words.specs.declared.Marks.{Marks}
use Rattle.bench_views.specs.Records.{Steady, no_node}
use Rattle.bench_views.specs.Canon.{Coded}

abbrev pub with_up : Interface → ℕ → Interface
with_up f p = set_parent f (Some p)

-- the parent of a fuse, whose marks were m, from its halves l and r, whose interfaces are L and R: it is floored as they are
abbrev pub fused_words : Marks → Interface → Interface → ℕ → ℕ → Interface
fused_words m L R l r = set_marks (set_halves (set_speed (set_sum (no_interface false) (L.sum + R.sum - sum_offset)) (L.speed + R.speed - speed_offset)) (l + 1) (r + 1)) (set_floored m L.marks.floored)

-- b' is b with the first n slots of interface u empty
pub record Emptied (b : List ℕ) (u : ℕ) (b' : List ℕ) (n : ℕ) : Type 0 where
  pub steady : Steady b'
  pub coded : Coded b'
  pub next : get_or b' 0 0 ≡ get_or b 0 0
  pub interfaces : (v : ℕ) → v < 8 → interface_at b' v ≡ interface_at b v
  pub maps : (v : ℕ) → v < 8 → map_at b' v ≡ map_at b v
  pub gone : (s : ℕ) → s < n → node_at b' (u * 64 + s) ≡ no_node
  pub kept : (k : ℕ) → ((s : ℕ) → s < n → k ≢ u * 64 + s) → node_at b' k ≡ node_at b k

-- b' is b with interface u as set-up leaves it, its map too, and the slots that it used empty
pub record Reset (b : List ℕ) (u : ℕ) (b' : List ℕ) : Type 0 where
  pub steady : Steady b'
  pub coded : Coded b'
  pub serial : get_or b' 0 0 ≡ get_or b 0 0
  pub here : interface_at b' u ≡ no_interface (interface_at b u).marks.plain
  pub there : (v : ℕ) → v < 8 → v ≢ u → interface_at b' v ≡ interface_at b v
  pub unmarked : map_at b' u ≡ 0
  pub marked : (v : ℕ) → v < 8 → v ≢ u → map_at b' v ≡ map_at b v
  pub gone : (s : ℕ) → s < (interface_at b u).used → node_at b' (u * 64 + s) ≡ no_node
  pub kept : (k : ℕ) → ((s : ℕ) → s < (interface_at b u).used → k ≢ u * 64 + s) → node_at b' k ≡ node_at b k
