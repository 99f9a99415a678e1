-- At each turn the count so far and that of the slots that are left make up the whole. Assumes nothing.
use Rattle.read_present.proofs.Walking.{Summing}
use Rattle.read_present.proofs.total.Given as goal

abbrev pub invariant-loop-u : goal.invariant-loop-u
invariant-loop-u l = Summing l.b l.unit l.u-index l.sum
