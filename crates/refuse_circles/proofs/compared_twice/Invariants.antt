-- A word passed does not come again, so what is left of the list decides. Assumes nothing.
use mathlib.Core.Path.{◌≡◌}
use Rattle.refuse_circles.proofs.Twice.{still}
use Rattle.refuse_circles.proofs.compared_twice.Given as goal

abbrev pub invariant-loop-i : goal.invariant-loop-i
invariant-loop-i l = still l.ws 0 ≡ still l.ws l.i
