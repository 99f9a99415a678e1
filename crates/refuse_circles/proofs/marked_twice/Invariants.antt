-- A word passed has its mark; where none is met, none is given twice. Assumes nothing.
use Rattle.refuse_circles.proofs.Seen.{Going}
use Rattle.refuse_circles.proofs.marked_twice.Given as goal

abbrev pub invariant-loop-w : goal.invariant-loop-w
invariant-loop-w l = Going l.ws l.seen l.w-index
