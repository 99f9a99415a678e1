-- Whenever a group is about to be taken, what is left answers as the whole does (`Reached`). The measure is the words left. Assumes nothing.
use Prim.Native.Nat.{◌-◌}
use mathlib.Core.Path.{refl, sym, ◌∙◌}
use borrow.Author.Rules.{rules}
use native.Mathlib.Omega.{arith}
use lib.ListN.{length as size}
use Rattle.recorded_steps.specs.Passes.{limit_no}
use Rattle.recorded_steps.proofs.Passing.{by_low}
use Rattle.recorded_steps.proofs.Reaching.{Reached, reached_start, reached_stop, reached_past, reached_next, reached_end}
use Rattle.recorded_steps.proofs.pass.Given as goal

abbrev pub invariant-loop-done : goal.invariant-loop-done
invariant-loop-done l = Reached (limit_no l.reach l.floor) l.ws l.length l.at l.taken l.done

abbrev pub decreases-loop-done : goal.decreases-loop-done
decreases-loop-done l = size l.ws - l.at
