-- The circle's own outermost blossom is every member's; the members are checked one after the other. Assumes nothing.
use Prim.Native.Nat.{◌-◌}
use Rattle.check_circles.proofs.Circling.{Going}
use Rattle.check_circles.proofs.circle_verdict.Given as goal

abbrev pub invariant-loop : goal.invariant-loop
invariant-loop l = Going l.b l.k l.strict l.p (l.end - l.counter)
