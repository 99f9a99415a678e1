-- What is written and what is left make the whole (`Writing`). Assumes nothing.
use Prim.Native.Nat.{◌+◌, ◌-◌, ◌*◌}
use native.Mathlib.Omega.{arith}
use Rattle.record_lines.proofs.Serials.{Writing, writing, room, write_on, written}
use Rattle.record_lines.proofs.put_serials.Given as goal

abbrev pub invariant-loop-i : goal.invariant-loop-i
invariant-loop-i l = Writing l.t l.count l.q l.initial.out l.at l.out l.place (l.q + 12 * l.i) (l.count - l.i)
