-- The remainders of the slots before k are marked; where two meet, all are compared. Assumes nothing.
use Rattle.sound_serials.proofs.Marking.{Going}
use Rattle.sound_serials.proofs.are_different.Given as goal

abbrev pub invariant-loop-k : goal.invariant-loop-k
invariant-loop-k l = Going l.b l.t l.k
