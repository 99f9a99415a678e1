-- The loop goes up by the definitions' own steps. Assumes nothing.
use Prim.Native.Nat.{◌-◌}
use Rattle.bench_trees.proofs.Climbing.{Going}
use Rattle.bench_trees.proofs.climb.Given as goal

abbrev pub invariant-loop-step : goal.invariant-loop-step
invariant-loop-step l = Going l.b l.unit l.t l.u (8 - l._step)
