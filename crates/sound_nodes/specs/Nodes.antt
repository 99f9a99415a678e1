-- The tests of a slot: blank and not in the map, or in the map, used and with a node that keeps every rule. Assumes nothing.
use Rattle.std.specs.Prelude.{ℕ, ◌+◌, ◌*◌, ◌≤◌, ◌≡◌, Bool, ◌&&◌, List, leb, ltb, get_or}
use Rattle.slot_map.specs.Slots.{bit_at}
use Rattle.bench_words.specs.Codec.{value_offset, pick}
use Rattle.kinds.specs.declared.GrowState.{GrowState}
use Rattle.kinds.specs.declared.Handle.{Handle}
use Rattle.bench_words.specs.Store.{node_at, interface_at, map_at}
use Rattle.bench_words.specs.declared.Node.{Node}
use Rattle.ledger_spec.specs.Look.{climb}
use Rattle.bench_views.specs.View.{value_by, sum_up, view}
use Rattle.sound_trees.specs.Below.{all_to, between}
use Rattle.bench_words.specs.Coding.{blank_at, coded_at}
use Rattle.sound_trees.specs.Width.{width_of}
use Rattle.sound_rings.specs.Rings.{class_test}
use Rattle.sound_seats.specs.Seats.{parent_test}
use Rattle.sound_nodes.specs.declared.Ground.{Ground}

-- the top of an interface's tree, T and W
pub record Grounds (b : List ℕ) (u : ℕ) (g : Ground) : Type 0 where
  pub top : g.top ≡ climb 8 (view b) u
  pub total : g.total ≡ sum_up 8 (interface_at b) u
  pub width : g.width ≡ width_of b (climb 8 (view b) u)
  pub small : g.total ≤ 8796093022208
  pub narrow : g.width ≤ 8796093022208

unfoldable pub near_test : GrowState → ℕ → ℕ → ℕ → Bool
near_test g bias t w = leb 576460752303423488 bias && (leb bias 2305843009213693952 && between value_offset w (value_by g bias t))

abbrev pub handle_in : ℕ → ℕ → Node → Handle
handle_in u s n = record { unit = u; slot = s; serial = n.serial }

-- a node n in slot s of interface u, with T and W and the top of its tree
unfoldable pub node_in : List ℕ → ℕ → ℕ → ℕ → ℕ → ℕ → Node → Bool
node_in b u s t w i n =
    ((leb 1 n.serial.0 && ltb n.serial.0 (get_or b 0 0)) && near_test n.state n.bias t w)
    && (class_test (node_at b) (get_or b 0 0) (handle_in u s n) n && parent_test b (u * 64 + s) i n)

unfoldable pub node_test : List ℕ → ℕ → ℕ → Bool
node_test b u s = coded_at b (u * 64 + s)
    && node_in b u s (sum_up 8 (interface_at b) u) (width_of b (climb 8 (view b) u)) (climb 8 (view b) u) (node_at b (u * 64 + s))

-- slot s of interface u, of which so many are used and w is the map
unfoldable pub slot_test : List ℕ → ℕ → ℕ → ℕ → ℕ → Bool
slot_test b used w u s = pick (bit_at w s) (ltb s used && node_test b u s) (blank_at b (u * 64 + s))

-- a map is a word: it has no bit past the last slot
unfoldable pub slots_test : List ℕ → ℕ → Bool
slots_test b u = ltb (map_at b u) 18446744073709551616 && all_to (slot_test b (interface_at b u).used (map_at b u) u) 64
