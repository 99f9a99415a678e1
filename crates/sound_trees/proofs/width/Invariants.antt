-- The progress of those before u is added up. Assumes nothing.
use Rattle.sound_trees.proofs.Rows.{Adding}
use Rattle.sound_trees.proofs.width.Given as goal

abbrev pub invariant-loop-u : goal.invariant-loop-u
invariant-loop-u l = Adding l.b l.top l.w l.u
