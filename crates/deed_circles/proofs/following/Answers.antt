-- The two cases of the test are those of the definition. Assumes nothing.
use native.Mathlib.Omega.{arith}
use Rattle.deed_circles.proofs.Bodies.{next_some, next_none}
use Rattle.deed_circles.proofs.following.Goals as goal

pub returns-then-i-members : goal.returns-then-i-members
returns-then-i-members c = next_some c.args.members.now c.args.i c.spot.result (omega arith) c.spot.ensures.0

pub returns : goal.returns
returns c = next_none c.args.members.now c.args.i (omega arith)
