-- The loop tells each member to stay; then the circle and the blossom are told. Assumes nothing.
use mathlib.Core.Path.{◌≡◌}
use mathlib.Core.List.{map}
use lib.ListN.{take}
use Rattle.outcome_notices.proofs.Telling.{halfway, stay, hand_of}
use Rattle.outcome_notices.proofs.blossom.Given as goal

abbrev pub invariant-loop-i : goal.invariant-loop-i
invariant-loop-i l = l.r ≡ halfway (map stay (take l.i l.members)) (map hand_of (take l.i l.members))
