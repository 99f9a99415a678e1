-- At each turn the lowest so far and that of the slots that are left make up the whole. Assumes nothing.
use Rattle.bench_floors.proofs.Along.{Leasting}
use Rattle.bench_floors.proofs.lowest.Given as goal

abbrev pub invariant-loop-i : goal.invariant-loop-i
invariant-loop-i l = Leasting l.b l.unit l.i l.low
