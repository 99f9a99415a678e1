-- The call on sound words answers; a refusal tells nothing, and a defect tells of its node. Assumes nothing.
use Rattle.ledger_spec.specs.Named.{handle_named}
use Rattle.ledger_laws.proofs.Answered.{node_of}
use Rattle.bench_views.specs.View.{view}
use Rattle.outcomes.proofs.Outcomes.{node_made}
use Rattle.outcome_notices.proofs.Tells.{tells_defect}
use Rattle.dual_ledger.proofs.Telling.{told_stops, told_goes}
use borrow.Author.Rules.{rules}
use Rattle.dual_ledger.proofs.told_calls.dual_ledger_told_create_defect_node.Goals as goal

pub returns-then-made-ne0 : goal.returns-then-made-ne0
returns-then-made-ne0 c = told_stops c.create_defect_node-made.ensures.0 c.if-made-ne0.true _ c.refused.ensures

pub returns : goal.returns
unfolding node_of
returns c =
    let a = c.args in
    let m = c.create_defect_node-made in
    let z = c.if-made-ne0.false in
    let h = node_made m.ensures.0 z m.ensures.1 in
    told_goes m.ensures.0 z h (tells_defect (view a.bench.now) a.unit a.vertex (handle_named m.result.node) h) _ c.defect.ensures
