-- As the climb, without T. Assumes nothing.
use Prim.Native.Nat.{◌-◌}
use Rattle.bench_trees.proofs.Climbing.{Rising}
use Rattle.bench_trees.proofs.top_of.Given as goal

abbrev pub invariant-loop-level : goal.invariant-loop-level
invariant-loop-level l = Rising l.b l.unit l.u (8 - l._level)
