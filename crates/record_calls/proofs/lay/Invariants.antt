-- One member after the other. Assumes nothing.
use native.Mathlib.Omega.{arith}
use Prim.Native.Nat.{◌-◌}
use lib.ListN.{length-set}
use Rattle.record_calls.proofs.Laying.{Laying, laying, laid_one, laid_all}
use Rattle.record_calls.proofs.lay.Given as goal

abbrev pub invariant-loop-i : goal.invariant-loop-i
invariant-loop-i l = Laying l.s l.q l.n l.initial.members l.initial.touching l.members l.touching l.i
