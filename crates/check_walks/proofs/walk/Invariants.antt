-- At each turn the walk along the slots left is the whole walk. Assumes nothing.
use Rattle.check_nests.specs.Nest.{Nests}
use Rattle.check_walks.proofs.Walking.{Walking}
use Rattle.check_walks.proofs.walk.Given as goal

abbrev pub invariant-loop-k : goal.invariant-loop-k
invariant-loop-k l = Walking l.b l.unit l.strict l.k l.n l.met × Nests l.b l.t
