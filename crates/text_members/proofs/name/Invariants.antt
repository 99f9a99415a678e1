-- The words passed name what their serials did; the others are as they were. Assumes nothing.
use lib.ListN.{take}
use Rattle.bench_views.specs.View.{view}
use Rattle.text_members.proofs.Naming.{Passed}
use Rattle.text_members.proofs.name.Given as goal

abbrev pub invariant-loop-word : goal.invariant-loop-word
invariant-loop-word l = Passed (view l.b) (take l.n l.fn.serials) l.word-items l.word-index
