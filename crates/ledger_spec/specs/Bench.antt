-- The bench of docs/MANUAL.md, Words, held plainly: what a node, an interface and a bench are, and the bench that set-up makes.
-- A weight is the ℤ that a contract has for an `i64`; serials, slots and vertices are ℕ. Assumes nothing.
use Rattle.std.specs.Prelude.{ℕ, Bool, true, false, List, [], ℤ, pos, negsuc, replicate, None, Option}

pub record Handle : Type 0 where
  pub unit : ℕ
  pub slot : ℕ
  pub serial : ℕ

pub data State : Type 0 where
  grows stays shrinks : State

-- a node's share of the speed
abbrev pub rate : State → ℤ
rate grows = pos 1
rate stays = pos 0
rate shrinks = negsuc 0

-- a member of a circle, with its two touching handles
pub record Member : Type 0 where
  pub node : Handle
  pub touch : Handle × Handle

pub data Class : Type 0 where
  defect : ℕ → Class
  blossom : List Member → Class

pub record Node : Type 0 where
  pub serial : ℕ
  pub class : Class
  pub state : State
  pub parent : Option Handle
  pub value : ℤ
  pub size : ℕ

-- what an interface is marked with since its last clear: whether a new node takes its lowest empty slot, and whether no value of its tree may fall below 0
pub record Marks : Type 0 where
  pub fills : Bool
  pub floored : Bool

abbrev pub no_marks : Marks
no_marks = record { fills = false; floored = false }

abbrev pub with_floor : Marks → Bool → Marks
with_floor m x = record { fills = m.fills; floored = x }

-- a mark that a call gives, and the marks with it
pub data Marking : Type 0 where
  filling floor : Marking

abbrev pub with_mark : Marking → Marks → Marks
with_mark filling m = record { fills = true; floored = m.floored }
with_mark floor m = with_floor m true

-- An interface. Its slots are those used since its last clear; one emptied by expansion is `none`.
pub record Interface : Type 0 where
  pub slots : List (Option Node)
  pub progress : ℤ
  pub sum : ℤ
  pub speed : ℤ
  pub parent : Option ℕ
  pub halves : Option (ℕ × ℕ)
  pub marks : Marks

-- `plain` says which engine holds the values: the plain one adds to each at every growth. It is chosen at set-up, and no call, read or check looks at it.
pub record Bench : Type 0 where
  pub next : ℕ
  pub interfaces : List Interface
  pub plain : Bool

abbrev pub fresh : Interface
fresh = record { slots = []; progress = pos 0; sum = pos 0; speed = pos 0; parent = None; halves = None; marks = no_marks }

-- ---- an interface with one field changed: what every other definition makes one by, so that a new field is said in this file alone

abbrev pub with_slots : Interface → List (Option Node) → Interface
with_slots f x = record { slots = x; progress = f.progress; sum = f.sum; speed = f.speed; parent = f.parent; halves = f.halves; marks = f.marks }

abbrev pub with_progress : Interface → ℤ → Interface
with_progress f x = record { slots = f.slots; progress = x; sum = f.sum; speed = f.speed; parent = f.parent; halves = f.halves; marks = f.marks }

abbrev pub with_sum : Interface → ℤ → Interface
with_sum f x = record { slots = f.slots; progress = f.progress; sum = x; speed = f.speed; parent = f.parent; halves = f.halves; marks = f.marks }

abbrev pub with_speed : Interface → ℤ → Interface
with_speed f x = record { slots = f.slots; progress = f.progress; sum = f.sum; speed = x; parent = f.parent; halves = f.halves; marks = f.marks }

abbrev pub with_parent : Interface → Option ℕ → Interface
with_parent f x = record { slots = f.slots; progress = f.progress; sum = f.sum; speed = f.speed; parent = x; halves = f.halves; marks = f.marks }

abbrev pub with_halves : Interface → Option (ℕ × ℕ) → Interface
with_halves f x = record { slots = f.slots; progress = f.progress; sum = f.sum; speed = f.speed; parent = f.parent; halves = x; marks = f.marks }

abbrev pub with_marks : Interface → Marks → Interface
with_marks f x = record { slots = f.slots; progress = f.progress; sum = f.sum; speed = f.speed; parent = f.parent; halves = f.halves; marks = x }

-- the bench that set-up makes, in either engine; and in the lazy one
abbrev pub set_up_in : Bool → ℕ → Bench
set_up_in plain first = record { next = first; interfaces = replicate 8 fresh; plain = plain }

abbrev pub set_up : ℕ → Bench
set_up first = set_up_in false first
