-- Each turn is one step of the definition. Assumes nothing.
use Rattle.bench_words.specs.Store.{node_at}
use Rattle.sound_seats.proofs.Seating.{Going}
use Rattle.sound_seats.proofs.walk.Given as goal

abbrev pub invariant-loop : goal.invariant-loop
invariant-loop l = Going (node_at l.b) l.first l.steps l.p l.counter
