-- At each turn the numbers so far stand where they should. Assumes nothing.
use Prim.Native.Nat.{◌+◌}
use Rattle.check_places.specs.Places.{Filled}
use Rattle.check_places.proofs.fill.Given as goal

abbrev pub invariant-loop-j : goal.invariant-loop-j
invariant-loop-j l = Filled l.initial.out l.n l.from l.j l.out (l.n + l.j)
