-- A node as it is taken into a circle, and as it is let out of one; and a new blossom. Assumes nothing.
use Rattle.std.specs.Prelude.{Some, ℕ, ◌/◌, List}
use Rattle.kinds.specs.declared.GrowState.TheVariants.{Grow as Growing, Stay}
use Rattle.kinds.specs.declared.Class.TheVariants.{Blossom}
use Rattle.kinds.specs.declared.Handle.{Handle as Packed}
use Rattle.bench_words.specs.Codec.{handle_of}
use Rattle.bench_words.specs.declared.Node.{Node}
use Rattle.bench_words.specs.declared.Interface.{Interface}
use Rattle.bench_views.specs.View.{sum_up}
use Rattle.deed_nodes.specs.Steps.{no_seat, new_node, remarked}
use Rattle.deed_nodes.specs.declared.Seat.{Seat}
use Rattle.deed_circles.specs.Given.{next_spot, touch_word}

-- member i in the circle of q
abbrev pub seat_of : List ℕ → List ℕ → Packed → ℕ → Seat
seat_of ms ts q i = record { parent = Some q; place = i; next = next_spot ms i; left = handle_of (touch_word ms ts i 0); right = handle_of (touch_word ms ts i 1) }

-- the node at position k stays, in a seat
abbrev pub taken_node : (ℕ → Interface) → (ℕ → Node) → ℕ → Seat → Node
taken_node U A k s = remarked (A k) (sum_up 8 U (k / 64)) Stay s

-- the node at position k grows, without a seat
abbrev pub freed_node : (ℕ → Interface) → (ℕ → Node) → ℕ → Node
freed_node U A k = remarked (A k) (sum_up 8 U (k / 64)) Growing no_seat

-- a new blossom
abbrev pub blossom_node : (serial first count size t : ℕ) → Node
blossom_node serial first count size t = new_node serial Blossom size first count t
