-- The loop takes the members in one by one, with the size and the speed so far; then the blossom is pushed. Assumes nothing.
use Rattle.deed_circles.proofs.Bodies.{Looping}
use Rattle.deed_circles.proofs.add_blossom.Given as goal

abbrev pub invariant-loop-i : goal.invariant-loop-i
invariant-loop-i l = Looping l.initial.b l.unit l.members l.touching l.q l.b l.size l.speed l.i
