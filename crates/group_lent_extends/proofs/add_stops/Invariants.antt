-- A turn of the loop adds one stop, for which there is room. Assumes nothing.
use Prim.Native.Nat.{◌≤◌}
use Rattle.group_lent_extends.proofs.Rounds.{Coming}
use Rattle.group_lent_extends.proofs.add_stops.Given as goal

abbrev pub invariant-loop-j : goal.invariant-loop-j
invariant-loop-j l = (l.j ≤ l.m) × Coming l.initial.w l.other l.w l.j
