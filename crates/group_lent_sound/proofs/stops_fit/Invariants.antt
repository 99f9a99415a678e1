-- What is left of the stops decides. Assumes nothing.
use Prim.Native.Nat.{◌-◌, ◌≤◌}
use mathlib.Core.Path.{◌≡◌}
use Rattle.group_lent_sound.specs.Test.{stops_fit}
use Rattle.group_lent_sound.proofs.stops_fit.Given as goal

abbrev pub invariant-loop-i : goal.invariant-loop-i
invariant-loop-i l = (l.i ≤ l.m) × (stops_fit l.w 0 0 l.m ≡ stops_fit l.w l.least l.i (l.m - l.i))
