-- Where a node and an interface lie in the bench's words, and what a load and a store of one is. Assumes nothing.
use Rattle.std.specs.Prelude.{None, Option, ℕ, suc, ◌+◌, ◌*◌, ◌%◌, Bool, false, List, [], ◌∷◌, get_or, set}
use Rattle.bench_words.specs.Codec.{sum_offset, speed_offset, state_of, state_word, handle_of, handle_word, class_of, class_word, parent_of, parent_word, up_of, up_word, marks_of, marks_word}
use Rattle.bench_words.specs.declared.Node.{Node}
use Rattle.bench_words.specs.declared.Interface.{Interface}
use Rattle.bench_words.specs.declared.Marks.{Marks}

-- fields stand at base + 1 and on
abbrev pub base : ℕ → ℕ
base k = 128 + k * 12

abbrev pub ibase : ℕ → ℕ
ibase u = u * 16

abbrev pub node_of : (s c g p l x a z v n f m : ℕ) → Node
node_of s c g p l x a z v n f m =
    record {
      serial = record { 0 = s % 4294967296 };
      class = class_of c;
      state = state_of g;
      parent = parent_of p;
      place = l;
      next = x;
      left = handle_of a;
      right = handle_of z;
      bias = v;
      size = n;
      first = f;
      count = m;
    }

unfoldable pub node_at : List ℕ → ℕ → Node
node_at b k =
    node_of
    (get_or b (base k + 1) 0)
    (get_or b (base k + 2) 0)
    (get_or b (base k + 3) 0)
    (get_or b (base k + 4) 0)
    (get_or b (base k + 5) 0)
    (get_or b (base k + 6) 0)
    (get_or b (base k + 7) 0)
    (get_or b (base k + 8) 0)
    (get_or b (base k + 9) 0)
    (get_or b (base k + 10) 0)
    (get_or b (base k + 11) 0)
    (get_or b (base k + 12) 0)

-- words written one after the other, from `at + f` on
abbrev pub writes : List ℕ → ℕ → ℕ → List ℕ → List ℕ
writes b at f [] = b
writes b at f (w ∷ ws) = writes (set b (at + f) w) at (suc f) ws

abbrev pub node_words : Node → List ℕ
node_words n =
    n.serial.0
    ∷ class_word n.class
    ∷ state_word n.state
    ∷ parent_word n.parent
    ∷ n.place
    ∷ n.next
    ∷ handle_word n.left
    ∷ handle_word n.right
    ∷ n.bias
    ∷ n.size
    ∷ n.first
    ∷ n.count
    ∷ []

unfoldable pub store_node : List ℕ → ℕ → Node → List ℕ
store_node b k n = writes b (base k) 1 (node_words n)

abbrev pub interface_of : (used progress sum speed parent left right marks : ℕ) → Interface
interface_of used progress sum speed parent left right marks =
    record { used = used; progress = progress; sum = sum; speed = speed; parent = up_of parent; left = left; right = right; marks = marks_of marks }

unfoldable pub interface_at : List ℕ → ℕ → Interface
interface_at b u =
    interface_of
    (get_or b (ibase u + 1) 0)
    (get_or b (ibase u + 2) 0)
    (get_or b (ibase u + 3) 0)
    (get_or b (ibase u + 4) 0)
    (get_or b (ibase u + 5) 0)
    (get_or b (ibase u + 6) 0)
    (get_or b (ibase u + 7) 0)
    (get_or b (ibase u + 9) 0)

-- the words before the map; the marks stand past it
abbrev pub interface_words : Interface → List ℕ
interface_words n = n.used ∷ n.progress ∷ n.sum ∷ n.speed ∷ up_word n.parent ∷ n.left ∷ n.right ∷ []

-- ---- an interface with one field changed, and one as set-up leaves it: what every other definition makes one by, so that a new field is said in this file alone

abbrev pub set_used : Interface → ℕ → Interface
set_used f x = record { used = x; progress = f.progress; sum = f.sum; speed = f.speed; parent = f.parent; left = f.left; right = f.right; marks = f.marks }

abbrev pub set_progress : Interface → ℕ → Interface
set_progress f x = record { used = f.used; progress = x; sum = f.sum; speed = f.speed; parent = f.parent; left = f.left; right = f.right; marks = f.marks }

abbrev pub set_sum : Interface → ℕ → Interface
set_sum f x = record { used = f.used; progress = f.progress; sum = x; speed = f.speed; parent = f.parent; left = f.left; right = f.right; marks = f.marks }

abbrev pub set_speed : Interface → ℕ → Interface
set_speed f x = record { used = f.used; progress = f.progress; sum = f.sum; speed = x; parent = f.parent; left = f.left; right = f.right; marks = f.marks }

abbrev pub set_parent : Interface → Option ℕ → Interface
set_parent f x = record { used = f.used; progress = f.progress; sum = f.sum; speed = f.speed; parent = x; left = f.left; right = f.right; marks = f.marks }

abbrev pub set_halves : Interface → ℕ → ℕ → Interface
set_halves f x y = record { used = f.used; progress = f.progress; sum = f.sum; speed = f.speed; parent = f.parent; left = x; right = y; marks = f.marks }

abbrev pub set_marks : Interface → Marks → Interface
set_marks f x = record { used = f.used; progress = f.progress; sum = f.sum; speed = f.speed; parent = f.parent; left = f.left; right = f.right; marks = x }

-- the same marks, floored or not; and none but the engine
abbrev pub set_floored : Marks → Bool → Marks
set_floored m x = record { fills = m.fills; floored = x; plain = m.plain }

abbrev pub no_marks : Bool → Marks
no_marks plain = record { fills = false; floored = false; plain = plain }

abbrev pub no_interface : Bool → Interface
no_interface plain = record { used = 0; progress = 0; sum = sum_offset; speed = speed_offset; parent = None; left = 0; right = 0; marks = no_marks plain }

unfoldable pub store_interface : List ℕ → ℕ → Interface → List ℕ
store_interface b u n = set (writes b (ibase u) 1 (interface_words n)) (ibase u + 9) (marks_word n.marks)

-- ---- the bias of a node, by itself

abbrev pub set_bias : Node → ℕ → Node
set_bias n x =
    record {
      serial = n.serial;
      class = n.class;
      state = n.state;
      parent = n.parent;
      place = n.place;
      next = n.next;
      left = n.left;
      right = n.right;
      bias = x;
      size = n.size;
      first = n.first;
      count = n.count;
    }

unfoldable pub store_bias : List ℕ → ℕ → ℕ → List ℕ
store_bias b k w = set b (base k + 9) w

-- ---- the map of an interface's slots, beside its record

unfoldable pub map_at : List ℕ → ℕ → ℕ
map_at b u = get_or b (ibase u + 8) 0

unfoldable pub store_map : List ℕ → ℕ → ℕ → List ℕ
store_map b u w = set b (ibase u + 8) w
