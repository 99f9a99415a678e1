-- Every step stays among the slots. Assumes nothing.
use Prim.Native.Nat.{◌<◌}
use Rattle.check_nests.proofs.after.Given as goal

abbrev pub invariant-loop : goal.invariant-loop
invariant-loop l = l.at < 512
