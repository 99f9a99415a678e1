-- The interfaces below w are done: those of the tree reset, the others as they were. Assumes nothing.
use Rattle.deed_trees.proofs.Wiping.{Wiping}
use Rattle.deed_trees.proofs.wipe.Given as goal

abbrev pub invariant-loop-w : goal.invariant-loop-w
invariant-loop-w l = Wiping l.initial.b l.unit l.b l.w
