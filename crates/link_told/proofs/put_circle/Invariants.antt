-- The loop writes a member a turn. Assumes nothing.
use mathlib.Core.Path.{◌≡◌}
use mathlib.Core.List.{map}
use lib.ListN.{take}
use lib.Seq.{sets}
use Rattle.bench_views.specs.Given.{hand_given}
use Rattle.link_answers.specs.Forms.{node_word}
use Rattle.link_told.proofs.put_circle.Given as goal

abbrev pub invariant-loop-i : goal.invariant-loop-i
invariant-loop-i l = l.out ≡ sets l.initial.out 135 (map node_word (map hand_given (take l.i l.members)))
