-- A turn of the pass over the stops of two groups: the other group's next stop comes in, the own next one is passed, or the two meet. Assumes nothing.
use Rattle.std.specs.Prelude.{ℕ, ◌+◌, ◌-◌, cond, List, leb, ltb}
use Rattle.kinds.specs.Obstacles.{pair_of}
use Rattle.kinds.specs.declared.Obstacle.TheVariants.{Conflicting}
use Rattle.kinds.specs.declared.Entry.{Entry}
use Rattle.kinds.specs.declared.Stop.{Stop}
use Rattle.groups.specs.declared.Kind.TheVariants.{Conflicts}
use Rattle.group_stops.specs.Places.{meeting_of}
use Rattle.group_stops.specs.declared.Meeting.{Meeting}
use Rattle.group_stops.specs.declared.Meeting.TheVariants.{Keep, Replace, Join}
use Rattle.group_adds.specs.declared.Changed.{Changed}
use Rattle.group_runs.specs.Runs.{laid_at}
use Rattle.group_merges.specs.declared.Turn.{Turn}
use Rattle.group_merges.specs.declared.Turn.TheVariants.{Put, Enter, Full}

-- x comes in, where that makes no more than 128 of so many stops
unfoldable pub comes_in : Stop → ℕ → Turn
comes_in x stops = cond (leb 128 stops) Full (Put x 0 1)

-- x meets y: one of them is kept, or a conflict is listed beside so many entries
unfoldable pub meets : Meeting → Stop → Stop → ℕ → Turn
meets Keep x y listed = Put y 1 1
meets Replace x y listed = Put x 1 1
meets (Join a b) x y listed = cond (leb 128 listed) Full (Enter (record { obstacle = Conflicting a b }))

unfoldable pub turn_of : Stop → Stop → ℕ → ℕ → Turn
turn_of x y stops listed = cond (ltb y.vertex.0 x.vertex.0) (Put y 1 0) (cond (ltb x.vertex.0 y.vertex.0) (comes_in x stops) (meets (meeting_of (pair_of x.obstacle) (pair_of y.obstacle)) x y listed))

-- a pass that is over: k stops are written to `out`, and the own ones from i on follow
abbrev pub closed : ℕ → List Stop → List Entry → ℕ → List Stop → ℕ → ℕ → Changed
closed n own list listed out i k = record { number = 0; group = record { kind = Conflicts; list = list; stops = laid_at k out i n own; listed = listed; stopped = k + (n - i) } }
