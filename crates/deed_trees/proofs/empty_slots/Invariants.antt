-- The slots before s are empty; each turn empties slot s. Assumes nothing.
use Rattle.deed_trees.specs.Empty.{Emptied}
use Rattle.deed_trees.proofs.empty_slots.Given as goal

abbrev pub invariant-loop-s : goal.invariant-loop-s
invariant-loop-s l = Emptied l.initial.b l.unit l.b l.s
