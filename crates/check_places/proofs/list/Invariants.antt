-- After i interfaces their slots stand listed, and what is left of the tree's slots comes after. Assumes nothing.
use Rattle.check_places.proofs.Filling.{Listing}
use Rattle.check_places.proofs.list.Given as goal

abbrev pub invariant-loop-u : goal.invariant-loop-u
invariant-loop-u l = Listing l.b l.unit l.u-index l.n l.out
