-- A refusal tells nothing; a defect tells of its node. Assumes nothing.
use borrow.Author.Rules.{rules}
use mathlib.Core.Path.{refl, ◌∙◌, ap}
use Rattle.ledger_spec.specs.Named.{handle_named}
use Rattle.ledger_laws.proofs.Answered.{node_of}
use Rattle.bench_views.specs.View.{view}
use Rattle.outcomes.proofs.Outcomes.{node_made}
use Rattle.outcome_notices.specs.Laid.{laid}
use Rattle.outcome_notices.proofs.Tells.{tells_defect}
use Rattle.call_told.proofs.Telling.{stops, goes}
use Rattle.call_told.proofs.create_defect_node.Goals as goal

pub returns-then-made-ne0 : goal.returns-then-made-ne0
returns-then-made-ne0 c = stops c.create_defect_node-made.ensures.0 c.if-made-ne0.true c.refused.ensures

pub returns : goal.returns
unfolding node_of
returns c =
    let a = c.args in
    let m = c.create_defect_node-made in
    let z = c.if-made-ne0.false in
    goes m.ensures.0 z m.ensures.1 refl
    (c.defect-notices.ensures ∙ ap laid (tells_defect (view a.b.now) a.unit a.vertex.0 (handle_named m.result.node) (node_made m.ensures.0 z m.ensures.1)))
