-- What is written and what is left make the whole (`Putting`). Assumes nothing.
use Prim.Native.Nat.{◌+◌, ◌-◌, ◌*◌}
use native.Mathlib.Omega.{arith}
use Rattle.record_gets.proofs.Writing.{Putting, putting, put_on, put_done}
use Rattle.record_gets.proofs.words.put_members.Given as goal

abbrev pub invariant-loop-i : goal.invariant-loop-i
invariant-loop-i l = Putting l.s l.q l.count l.initial.out l.place l.out (l.q + 12 * l.i) (l.place + 3 * l.i) (l.count - l.i)
