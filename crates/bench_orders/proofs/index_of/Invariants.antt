-- At each turn the index in the whole is that in the slots that are left, counted from the slots passed. Assumes nothing.
use Rattle.ledger_spec.specs.Named.{handle_named}
use Rattle.bench_orders.proofs.Counting.{Passed}
use Rattle.bench_orders.proofs.index_of.Given as goal

abbrev pub invariant-loop-u : goal.invariant-loop-u
invariant-loop-u l = Passed l.b l.unit (handle_named l.h) l.u-index l.passed
