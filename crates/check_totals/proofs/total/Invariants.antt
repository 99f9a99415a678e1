-- At each turn what is added and what the slots left add up to is the whole total. Assumes nothing.
use Rattle.check_totals.proofs.Adding.{Adding}
use Rattle.check_totals.proofs.total.Given as goal

abbrev pub invariant-loop-k : goal.invariant-loop-k
invariant-loop-k l = Adding l.b l.unit l.k-index l.last l.t l.sum
