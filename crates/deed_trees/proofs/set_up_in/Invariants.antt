-- All words are erased; each turn stores one interface as empty; then the first serial. Assumes nothing.
use Rattle.deed_trees.proofs.Beginning.{Filling}
use Rattle.deed_trees.proofs.set_up_in.Given as goal

abbrev pub invariant-loop-u : goal.invariant-loop-u
invariant-loop-u l = Filling l.plain l.b l.u
