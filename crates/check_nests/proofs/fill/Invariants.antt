-- At each turn the words are true, and the members left lie behind those that are noted. Assumes nothing.
use Prim.Native.Nat.{◌-◌}
use Rattle.check_nests.proofs.Filling.{Going}
use Rattle.check_nests.proofs.fill.Given as goal

abbrev pub invariant-loop : goal.invariant-loop
invariant-loop l = Going l.b l.k l.w l.root l.x l.p (l.end - l.counter) l.t
