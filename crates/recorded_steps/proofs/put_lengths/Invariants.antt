-- What is left of the lengths, written from here, comes to the whole (`Writing`). The measure is the words left. Assumes nothing.
use Prim.Native.Nat.{◌-◌}
use native.Mathlib.Omega.{arith}
use lib.ListN.{length as size}
use Rattle.recorded_steps.proofs.Reaching.{Writing, writing_start, goes_on, writing_room, writing_next, writing_end}
use Rattle.recorded_steps.proofs.put_lengths.Given as goal

abbrev pub invariant-loop-done : goal.invariant-loop-done
invariant-loop-done l = Writing l.ws l.length l.initial.out l.out l.at l.i l.done

abbrev pub decreases-loop-done : goal.decreases-loop-done
decreases-loop-done l = size l.ws - l.at
