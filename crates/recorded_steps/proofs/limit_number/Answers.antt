-- At each return the tests that led there say which number it is. Assumes nothing.
use native.Mathlib.Omega.{arith}
use Rattle.recorded_steps.proofs.Passing.{past_reach, past_floor, past_none}
use Rattle.recorded_steps.proofs.limit_number.Goals as goal

pub returns-then-reach-done : goal.returns-then-reach-done
returns-then-reach-done c = let a = c.args in past_reach a.reach a.floor a.done c.if-reach-done.true

pub returns-then-floor-done : goal.returns-then-floor-done
returns-then-floor-done c = let a = c.args in past_floor a.reach a.floor a.done (omega arith) c.if-floor-done.true

pub returns : goal.returns
returns c = let a = c.args in past_none a.reach a.floor a.done (omega arith) (omega arith)
