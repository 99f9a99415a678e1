-- A vertex that is not found where its bits lead was not met, and becomes the entry that they lead to. Assumes nothing.
use Prim.Native.Nat.{◌-◌}
use Rattle.check_seen.proofs.Looking.{Looked}
use Rattle.check_seen.proofs.meet.Given as goal

abbrev pub invariant-loop-p : goal.invariant-loop-p
invariant-loop-p l = Looked l.t l.n l.v l.cell l.rest l.p

abbrev pub decreases-loop-p : goal.decreases-loop-p
decreases-loop-p l = 2048 - l.cell
