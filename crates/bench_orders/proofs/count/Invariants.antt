-- At each turn the count so far and the slots that are left make up the whole. Assumes nothing.
use Rattle.bench_orders.proofs.Counting.{Counted}
use Rattle.bench_orders.proofs.count.Given as goal

abbrev pub invariant-loop-u : goal.invariant-loop-u
invariant-loop-u l = Counted l.b l.unit l.u-index l.total
