-- The loop tells each member to stay; then the circle and the blossom are told. Assumes nothing.
use native.Mathlib.Omega.{arith}
use Rattle.outcome_notices.proofs.Telling.{begun, stay_more, stay_ends}
use Rattle.outcome_notices.proofs.blossom.Goals as goal

pub loop-i-init : goal.loop-i-init
loop-i-init c = begun c.none-r.result c.none-r.ensures

pub loop-i-preserved : goal.loop-i-preserved
loop-i-preserved c = stay_more c.args.members.now c.loop-i.i c.loop-i.r c.hand-h.result (omega arith) (omega arith) c.loop-i.invariant c.hand-h.ensures

pub returns : goal.returns
returns c = stay_ends c.args.members.now c.args.q c.loop-i.i c.loop-i.r c.requires (omega arith) c.loop-i.invariant
