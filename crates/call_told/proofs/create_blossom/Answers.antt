-- A refusal tells nothing; a blossom tells of its members, its circle and its node. Assumes nothing.
use borrow.Author.Rules.{rules}
use mathlib.Core.Path.{refl, ◌∙◌, ap}
use Rattle.ledger_spec.specs.Named.{handle_named}
use Rattle.deed_circles.specs.Given.{hands_given, pairs_given}
use Rattle.ledger_laws.proofs.Answered.{node_of}
use Rattle.bench_views.specs.View.{view}
use Rattle.outcomes.proofs.Outcomes.{tests_are, node_made}
use Rattle.outcome_notices.specs.Laid.{laid}
use Rattle.outcome_notices.proofs.Tells.{tells_blossom}
use Rattle.call_told.proofs.Telling.{stops, goes, few_members}
use Rattle.call_told.proofs.create_blossom.Goals as goal

pub returns-then-made-ne0 : goal.returns-then-made-ne0
returns-then-made-ne0 c = stops c.create_blossom-made.ensures.0 c.if-made-ne0.true c.refused.ensures

pub blossom-notices-requires : goal.blossom-notices-requires
blossom-notices-requires c =
    let a = c.args in
    few_members a.b.now a.unit a.members.now (pairs_given a.touching.now) (tests_are c.create_blossom-made.ensures.0 c.if-made-ne0.false)

pub returns : goal.returns
unfolding node_of
returns c =
    let a = c.args in
    let m = c.create_blossom-made in
    let z = c.if-made-ne0.false in
    goes m.ensures.0 z m.ensures.1 refl
    (c.blossom-notices.ensures ∙ ap laid (tells_blossom (view a.b.now) a.unit (hands_given a.members.now) (pairs_given a.touching.now) (handle_named m.result.node) (node_made m.ensures.0 z m.ensures.1)))
