-- The loop walks the circle as it was at the call, and lets its members out one by one; then the slot is emptied, the speed set and the bit taken out.
-- Assumes nothing.
use Rattle.deed_circles.proofs.Freeing.{Freeing}
use Rattle.deed_circles.proofs.remove_blossom.Given as goal

abbrev pub invariant-loop : goal.invariant-loop
invariant-loop l = Freeing l.initial.b l.initial.at l.b l.at l.counter
