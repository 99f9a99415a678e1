-- The loop tells a member a turn to stay, each just past what is told. Assumes nothing.
use mathlib.Core.Path.{◌≡◌}
use lib.ListN.{take}
use lib.Seq.{sets}
use Rattle.link_told.specs.Answers.{told_words}
use Rattle.link_told.specs.Circles.{staying}
use Rattle.link_told.proofs.put_stays.Given as goal

abbrev pub invariant-loop-i : goal.invariant-loop-i
invariant-loop-i l = l.out ≡ sets l.initial.out 3 (told_words (staying (take l.i l.members)))
