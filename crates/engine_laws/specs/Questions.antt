-- Everything that a bench can be asked and that leaves it as it is, as one thing: reads, both checks, the picture, and the two calls on groups that are
-- lent a bench. (The present nodes of a tree are asked in crate read_present.) Assumes nothing.
use Rattle.std.specs.Prelude.{ℕ, Bool, List, ℤ, Option}
use Rattle.kinds.specs.declared.Obstacle.{Obstacle}
use Rattle.ledger_spec.specs.Bench.{Handle, Bench}
use Rattle.ledger_spec.specs.Groups.{Group}
use Rattle.ledger_spec.specs.GroupCalls.{add, extend}
use Rattle.ledger_spec.specs.Answers.{Read, sum_read, speed_read, count_read, fills_read, floored_read, index_read, belongs_read, value_read, outer_read, below_read, first_read, vertices_read, check_read, strict_read}
use Rattle.picture_spec.specs.Picture.{picture_read}

pub data Question : Type 0 where
  Sum Speed Count Fills Floored Check Strict : (unit : ℕ) → Question
  At : (unit index : ℕ) → Question
  Belongs : (unit : ℕ) (node : Handle) → Question
  Value Outer Below First : (node : Handle) → Question
  Vertices : (node : Handle) (room : List ℕ) → Question
  Picture : (unit : ℕ) (abbreviated : Bool) (room : List ℕ) → Question
  Add : Group → Obstacle → Question
  Extend : Group → Group → Question

-- what its answer gives beside the number
abbrev pub Given : Question → Type 0
Given (Sum u) = ℤ
Given (Speed u) = ℤ
Given (Count u) = ℕ
Given (Fills u) = Bool
Given (Floored u) = Bool
Given (Check u) = ℕ × ℕ
Given (Strict u) = ℕ × ℕ
Given (At u k) = Option Handle
Given (Belongs u h) = Bool
Given (Value h) = ℤ
Given (Outer h) = Handle × ℕ
Given (Below h) = Handle
Given (First h) = ℕ
Given (Vertices h out) = ℕ × List ℕ
Given (Picture u a out) = ℕ × List ℕ
Given (Add g o) = Group
Given (Extend g h) = Group

-- asked of a bench
abbrev pub asking : Bench → (q : Question) → Read (Given q)
asking b (Sum u) = sum_read b u
asking b (Speed u) = speed_read b u
asking b (Count u) = count_read b u
asking b (Fills u) = fills_read b u
asking b (Floored u) = floored_read b u
asking b (Check u) = check_read b u
asking b (Strict u) = strict_read b u
asking b (At u k) = index_read b u k
asking b (Belongs u h) = belongs_read b u h
asking b (Value h) = value_read b h
asking b (Outer h) = outer_read b h
asking b (Below h) = below_read b h
asking b (First h) = first_read b h
asking b (Vertices h out) = vertices_read b h out
asking b (Picture u a out) = picture_read b u a out
asking b (Add g o) = record { own = add b g o; zero = g }
asking b (Extend g h) = record { own = extend b g h; zero = g }
