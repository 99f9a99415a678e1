-- Every word that is written is true, in whatever order the slots come. Assumes nothing.
use Prim.Native.Nat.{◌<◌}
use Rattle.check_nests.specs.Nest.{Nests}
use Rattle.check_nests.proofs.spread.Given as goal

abbrev pub invariant-loop : goal.invariant-loop
invariant-loop l = (l.at < 512) × Nests l.b l.t
