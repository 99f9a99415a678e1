-- At each turn what is left of the list comes after what is put. Assumes nothing.
use Prim.Native.Nat.{◌≤◌}
use Rattle.picture_nodes.proofs.Along.{Along}
use Rattle.picture_nodes.proofs.put_slots.Given as goal

abbrev pub invariant-loop-k : goal.invariant-loop-k
invariant-loop-k l = (l.k ≤ l.count) × Along l.b l.unit l.short l.initial.out l.initial.r l.out l.r l.k l.i
