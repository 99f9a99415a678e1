-- At each turn the lowest so far and that of the slots that are left make up the whole. Assumes nothing.
use Rattle.bench_floors.proofs.Along.{Lowering}
use Rattle.bench_floors.proofs.lower_in.Given as goal

abbrev pub invariant-loop-s : goal.invariant-loop-s
invariant-loop-s l = Lowering l.b l.u l.m l.s l.low
