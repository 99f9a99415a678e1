-- A digit is counted for each tenth that is taken (`Counting`). Assumes nothing.
use Rattle.record_measures.proofs.Counts.{Counting, starting, turning, ending}
use native.Mathlib.Omega.{arith}
use Rattle.record_measures.proofs.digits.digits.Given as goal

abbrev pub invariant-loop-m : goal.invariant-loop-m
invariant-loop-m l = Counting l.n l.k l.m

abbrev pub decreases-loop-m : goal.decreases-loop-m
decreases-loop-m l = l.m
