-- What is written and what is left make the whole (`Putting`). Assumes nothing.
use lib.ListN.{take}
use Rattle.record_puts.proofs.Putting.{Putting}
use Rattle.record_puts.proofs.put_members.Given as goal

abbrev pub invariant-loop-n : goal.invariant-loop-n
invariant-loop-n l = Putting (take l.count l.serials) l.initial.out l.at l.n-index l.p l.out
