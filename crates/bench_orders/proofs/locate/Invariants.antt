-- At each turn the index in the whole is what is left of it among the slots that are left. Assumes nothing.
use Rattle.bench_orders.proofs.Counting.{Sought}
use Rattle.bench_orders.proofs.locate.Given as goal

abbrev pub invariant-loop-u : goal.invariant-loop-u
invariant-loop-u l = Sought l.b l.unit l.index l.u-index l.rest
