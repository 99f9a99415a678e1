-- The call on sound words answers; a refusal tells nothing, and a blossom tells of its members, its circle and its node. Assumes nothing.
use Rattle.ledger_spec.specs.Named.{handle_named}
use Rattle.ledger_laws.proofs.Answered.{node_of}
use Rattle.bench_views.specs.View.{view}
use Rattle.deed_circles.specs.Given.{hands_given, pairs_given}
use Rattle.outcomes.proofs.Outcomes.{tests_are, node_made}
use Rattle.outcome_notices.proofs.Tells.{tells_blossom}
use Rattle.call_told.proofs.Telling.{few_members}
use Rattle.dual_ledger.proofs.Telling.{told_stops, told_goes}
use borrow.Author.Rules.{rules}
use Rattle.dual_ledger.proofs.told_calls.dual_ledger_told_create_blossom.Goals as goal

pub returns-then-made-ne0 : goal.returns-then-made-ne0
returns-then-made-ne0 c = told_stops c.create_blossom-made.ensures.0 c.if-made-ne0.true _ c.refused.ensures

pub blossom-requires : goal.blossom-requires
blossom-requires c =
    let a = c.args in
    few_members a.bench.now a.unit a.members.now (pairs_given a.touching.now) (tests_are c.create_blossom-made.ensures.0 c.if-made-ne0.false)

pub returns : goal.returns
unfolding node_of
returns c =
    let a = c.args in
    let m = c.create_blossom-made in
    let z = c.if-made-ne0.false in
    let h = node_made m.ensures.0 z m.ensures.1 in
    told_goes m.ensures.0 z h (tells_blossom (view a.bench.now) a.unit (hands_given a.members.now) (pairs_given a.touching.now) (handle_named m.result.node) h) _ c.blossom.ensures
