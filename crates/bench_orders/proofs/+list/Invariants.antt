-- The halves of an interface have lower numbers. Assumes nothing.
use Rattle.bench_orders.proofs.+list.Given as goal

abbrev pub decreases-list : goal.decreases-list
decreases-list l = l.unit
