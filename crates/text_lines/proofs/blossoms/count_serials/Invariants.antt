-- What is counted and what is left make the whole (`Counting`); each serial lies further on, so the loop ends. Assumes nothing.
use Prim.Native.Nat.{◌-◌}
use native.Mathlib.Omega.{arith}
use mathlib.Core.Path.{◌≡◌}
use lib.ListN.{length}
use borrow.Author.Rules.{rules}
use Rattle.text_lines.proofs.Follow.{got_further}
use Rattle.text_lines.proofs.Serials.{Counting, count_start, count_turn, count_bad, count_end}
use Rattle.text_lines.proofs.blossoms.count_serials.Given as goal

abbrev pub invariant-loop-e : goal.invariant-loop-e
invariant-loop-e l = Counting l.s l.place l.e l.n

abbrev pub decreases-loop-e : goal.decreases-loop-e
decreases-loop-e l = length l.s - l.e
