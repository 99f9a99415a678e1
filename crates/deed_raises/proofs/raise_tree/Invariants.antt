-- The interfaces before v are done. Assumes nothing.
use Prim.Native.Nat.{◌*◌}
use Rattle.deed_raises.specs.Raises.{Raised}
use Rattle.deed_raises.proofs.raise_tree.Given as goal

abbrev pub invariant-loop-v : goal.invariant-loop-v
invariant-loop-v l = Raised l.initial.b l.top l.length l.b (l.v * 64)
