-- What is written and what is left make the whole (`Filling`). Assumes nothing.
use Prim.Native.Nat.{◌+◌, ◌-◌, ◌*◌}
use native.Mathlib.Omega.{arith}
use Rattle.record_files.proofs.Slices.{bytes_all}
use Rattle.record_unpacks.proofs.Filling.{Filling, filling, line_ready, fill_on, filled}
use Rattle.record_unpacks.proofs.fill.Given as goal

abbrev pub invariant-loop-i : goal.invariant-loop-i
invariant-loop-i l = Filling l.s l.t l.list l.count l.initial.out (l.list + 4 * l.i) (l.count - l.i) l.at l.out
