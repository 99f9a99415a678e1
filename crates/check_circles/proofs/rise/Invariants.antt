-- The loop goes up by the definition's own steps, one link a turn. Assumes nothing.
use Rattle.ledger_spec.specs.Named.{handle_named}
use Rattle.check_circles.proofs.Arriving.{Rising}
use Rattle.check_circles.proofs.rise.Given as goal

abbrev pub invariant-loop : goal.invariant-loop
invariant-loop l = Rising l.b (handle_named l.own) (handle_named l.initial.at) (handle_named l.at) l.counter
