-- What the calls' work does to a node and to the words. Assumes nothing.
use Rattle.std.specs.Prelude.{None, ℕ, suc, max, ◌+◌, ◌-◌, ◌*◌, ◌≤◌, true, List, get_or, set}
use Rattle.slot_map.specs.Slots.{put}
use Rattle.bench_words.specs.Codec.{value_offset}
use Rattle.kinds.specs.Names.{no_code}
use Rattle.kinds.specs.declared.GrowState.{GrowState}
use Rattle.kinds.specs.declared.GrowState.TheVariants.{Grow as Growing}
use Rattle.kinds.specs.declared.Class.{Class}
use Rattle.kinds.specs.declared.Class.TheVariants.{Defect}
use Rattle.kinds.specs.declared.Vertex.{Vertex}
use Rattle.bench_words.specs.Store.{interface_at, store_node, store_interface, map_at, store_map, set_speed}
use Rattle.bench_words.specs.declared.Node.{Node}
use Rattle.bench_words.specs.declared.Interface.{Interface}
use Rattle.bench_views.specs.Records.{with_used, with_growth}
use Rattle.bench_views.specs.View.{value_by, bias_of}
use Rattle.deed_nodes.specs.declared.Seat.{Seat}

-- the seat of a node without a parent
abbrev pub no_seat : Seat
no_seat = record { parent = None; place = 0; next = 0; left = no_code; right = no_code }

-- a node with another state and seat, of the same value at T = t
abbrev pub remarked : Node → ℕ → GrowState → Seat → Node
remarked n t g s =
    record {
      serial = n.serial;
      class = n.class;
      state = g;
      parent = s.parent;
      place = s.place;
      next = s.next;
      left = s.left;
      right = s.right;
      bias = bias_of g (value_by n.state n.bias t) t;
      size = n.size;
      first = n.first;
      count = n.count;
    }

-- a new node: value 0 at T = t, growing
abbrev pub new_node : ℕ → Class → (size first count t : ℕ) → Node
new_node serial class size first count t =
    record {
      serial = record { 0 = serial };
      class = class;
      state = Growing;
      parent = None;
      place = 0;
      next = 0;
      left = no_code;
      right = no_code;
      bias = value_offset - t;
      size = size;
      first = first;
      count = count;
    }

-- a new defect
abbrev pub defect_node : ℕ → Vertex → ℕ → Node
defect_node serial v t = new_node serial (Defect v) 1 0 0 t

-- interface u has speed s
unfoldable pub paced : List ℕ → ℕ → ℕ → List ℕ
paced b u s = store_interface b u (set_speed (interface_at b u) s)

-- interface u has grown by l
unfoldable pub noted : List ℕ → ℕ → ℕ → List ℕ
noted b u l =
    let f = interface_at b u in
    store_interface b u (with_growth f (f.progress + l) (f.sum + l * f.speed - l * 1024))

-- and it can
pub record Room (f : Interface) (l : ℕ) : Type 0 where
  pub progress : f.progress + l ≤ 1099511627776
  pub product : l * f.speed ≤ 1688849860263936
  pub low : 4607182418800017408 ≤ f.sum
  pub high : f.sum ≤ 4616189618054758400

-- node n in slot k of interface u, whose speed then is s and whose used slots go up to the highest that was filled; its bit in the map; the next serial
unfoldable pub pushed : List ℕ → ℕ → ℕ → Node → ℕ → List ℕ
pushed b u k n s =
    set
    (store_map
    (store_interface (store_node b (u * 64 + k) n) u (with_used (interface_at b u) (max (interface_at b u).used (suc k)) s))
    u
    (put (map_at b u) k true))
    0
    (suc (get_or b 0 0))
