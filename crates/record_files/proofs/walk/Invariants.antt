-- What is scanned and what is left make the whole (`Walking`). Assumes nothing.
use Prim.Native.Nat.{◌+◌, ◌-◌, ◌*◌}
use Rattle.record_files.proofs.Walking.{Walking}
use Rattle.record_files.proofs.walk.Given as goal

abbrev pub invariant-loop-i : goal.invariant-loop-i
invariant-loop-i l = Walking l.s l.t l.list l.count l.p (l.list + 4 * l.i) (l.count - l.i) l.text l.own
