-- The loop goes up by the definitions' own steps. Assumes nothing.
use Rattle.ledger_spec.specs.Named.{handle_named}
use Rattle.bench_links.proofs.Rising.{Going}
use Rattle.bench_links.proofs.outermost.Given as goal

abbrev pub invariant-loop-links : goal.invariant-loop-links
invariant-loop-links l = Going l.b (handle_named l.initial.at) (handle_named l.at) (handle_named l.under) l.links
