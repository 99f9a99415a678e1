-- What is stored, with what is to come, is all of them (`Storing`). Assumes nothing.
use Prim.Native.Nat.{◌-◌}
use native.Mathlib.Omega.{arith}
use mathlib.Core.Path.{◌≡◌}
use lib.ListN.{length}
use borrow.Author.Rules.{rules}
use Rattle.text_lines.proofs.Follow.{got_further}
use Rattle.text_lines.proofs.Serials.{Storing, store_start, store_turn, store_bad, store_end}
use Rattle.text_lines.proofs.blossoms.store_serials.Given as goal

abbrev pub invariant-loop-e : goal.invariant-loop-e
invariant-loop-e l = Storing l.s l.initial.out l.place l.e l.n l.out

abbrev pub decreases-loop-e : goal.decreases-loop-e
decreases-loop-e l = length l.s - l.e
