-- The plain ledger's own bench, read off the words. Assumes nothing.
use Rattle.std.specs.Prelude.{None, Option, Some, ℕ, zero, suc, ◌+◌, ◌-◌, ◌*◌, ◌/◌, ◌%◌, List, [], ◌∷◌, eqb, get_or, ℤ, pos, ◌-ℤ◌}
use Rattle.bench_words.specs.Codec.{value_offset, sum_offset, speed_offset, pick}
use Rattle.bench_words.specs.Store.{node_at, interface_at, set_bias}
use Rattle.kinds.specs.declared.GrowState.{GrowState}
use Rattle.kinds.specs.declared.GrowState.TheVariants.{Grow as Growing, Stay, Shrink}
use Rattle.kinds.specs.declared.Class.{Class}
use Rattle.kinds.specs.declared.Class.TheVariants.{Absent, Blossom, Defect}
use Rattle.kinds.specs.declared.Vertex.{Vertex}
use Rattle.bench_words.specs.declared.Node.{Node}
use Rattle.bench_words.specs.declared.Interface.{Interface}
use Rattle.bench_words.specs.declared.Marks.{Marks}
use Rattle.ledger_spec.specs.Bench.{Handle, Member, defect, blossom, Bench}
use Rattle.ledger_spec.specs.Bench as plain
use Rattle.ledger_spec.specs.Named.{handle_named, state_named, parent_named}
use Rattle.bench_views.specs.Tab.{tab}

-- a number that stands c higher than it is
unfoldable pub off : ℕ → ℕ → ℤ
off c n = pos n -ℤ pos c

abbrev pub up_seen : Option ℕ → Option ℕ
up_seen None = None
up_seen (Some p) = Some p

abbrev pub halves_seen : ℕ → ℕ → Option (ℕ × ℕ)
halves_seen l r = pick (eqb l 0) None (Some (l - 1, r - 1))

abbrev pub marks_seen : Marks → plain.Marks
marks_seen m = record { fills = m.fills; floored = m.floored }

-- ---- values
abbrev pub value_by : GrowState → ℕ → ℕ → ℕ
value_by Growing b t = b + t
value_by Stay b t = b
value_by Shrink b t = b - t

abbrev pub bias_of : GrowState → ℕ → ℕ → ℕ
bias_of Growing v t = v - t
bias_of Stay v t = v
bias_of Shrink v t = v + t

-- a node whose value is l more, or less, by its state: what a growth does to each node in the plain engine
abbrev pub raised : ℕ → Node → Node
raised l n = set_bias n (value_by n.state n.bias l)

abbrev pub over : {A : Type 0} → Option ℕ → A → (ℕ → A) → A
over None a f = a
over (Some p) a f = f p

-- what the values in a unit's tree are behind by: its progress, or nothing in the plain engine
abbrev pub lag_of : Interface → ℕ
lag_of f = pick f.marks.plain 0 f.progress

-- what values are behind by, of a unit and of those above it, n at most
unfoldable pub sum_up : ℕ → (ℕ → Interface) → ℕ → ℕ
sum_up zero A u = 0
sum_up (suc n) A u = lag_of (A u) + over (A u).parent 0 (sum_up n A)

-- ---- circles
abbrev pub handle_at : (ℕ → Node) → ℕ → Handle
handle_at A k = record { unit = k / 64; slot = k % 64; serial = (A k).serial.0 }

abbrev pub member_at : (ℕ → Node) → ℕ → Member
member_at A k = record { node = handle_at A k; touch = (handle_named (A k).left, handle_named (A k).right) }

-- n members from position k on, each giving the next
unfoldable pub follow : ℕ → (ℕ → Node) → ℕ → List Member
follow zero A k = []
follow (suc n) A k = member_at A k ∷ follow n A (A k).next

abbrev pub circle_of : (ℕ → Node) → ℕ → List Member
circle_of A k = follow (A k).count A (A k).first

-- ---- a slot, an interface, the bench
abbrev pub node_seen : Node → ℕ → plain.Class → plain.Node
node_seen n t c = record { serial = n.serial.0; class = c; state = state_named n.state; parent = parent_named n.parent; value = off value_offset (value_by n.state n.bias t); size = n.size }

abbrev pub by_class : {A : Type 0} → Class → A → A → (Vertex → A) → A
by_class Absent a b d = a
by_class Blossom a b d = b
by_class (Defect v) a b d = d v

unfoldable pub slot_seen : Node → ℕ → List Member → Option plain.Node
slot_seen n t ms = by_class n.class None (Some (node_seen n t (blossom ms))) (λ v. Some (node_seen n t (defect v.0)))

abbrev pub slot_in : (ℕ → Interface) → (ℕ → Node) → ℕ → ℕ → Option plain.Node
slot_in U A u s = slot_seen (A (u * 64 + s)) (sum_up 8 U u) (circle_of A (u * 64 + s))

abbrev pub interface_in : (ℕ → Interface) → (ℕ → Node) → ℕ → plain.Interface
interface_in U A u =
    record {
      slots = tab (slot_in U A u) 0 (U u).used;
      progress = pos (U u).progress;
      sum = off sum_offset (U u).sum;
      speed = off speed_offset (U u).speed;
      parent = up_seen (U u).parent;
      halves = halves_seen (U u).left (U u).right;
      marks = marks_seen (U u).marks;
    }

unfoldable pub view_in : ℕ → (ℕ → Interface) → (ℕ → Node) → Bench
view_in n U A = record { next = n; interfaces = tab (interface_in U A) 0 8; plain = (U 0).marks.plain }

abbrev pub view : List ℕ → Bench
view b = view_in (get_or b 0 0) (interface_at b) (node_at b)
