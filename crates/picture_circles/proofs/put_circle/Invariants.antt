-- At each turn what is left of the list comes after what is put. Assumes nothing.
use Prim.Native.Nat.{◌-◌}
use Rattle.picture_circles.proofs.Going.{Going}
use Rattle.picture_circles.proofs.put_circle.Given as goal

abbrev pub invariant-loop : goal.invariant-loop
invariant-loop l = Going l.b l.unit l.k l.touching l.initial.out l.initial.r l.out l.r l.p (l.end - l.counter) l.i
