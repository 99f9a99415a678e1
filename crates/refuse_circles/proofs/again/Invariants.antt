-- A word passed is another one, so what is left of the list decides. Assumes nothing.
use mathlib.Core.Path.{◌≡◌}
use Rattle.refuse_circles.proofs.Twice.{after}
use Rattle.refuse_circles.proofs.again.Given as goal

abbrev pub invariant-loop-i : goal.invariant-loop-i
invariant-loop-i l = after l.ws l.w l.from ≡ after l.ws l.w l.i
