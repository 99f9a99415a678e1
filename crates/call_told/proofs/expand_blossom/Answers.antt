-- A refusal tells nothing; else what the circle tells was made before the work. Assumes nothing.
use borrow.Author.Rules.{rules}
use Rattle.ledger_spec.specs.Calls.{Expand}
use Rattle.ledger_spec.specs.Named.{handle_named}
use Rattle.ledger_spec.specs.Notices.{tells}
use Rattle.ledger_laws.proofs.Answered.{tests_of}
use Rattle.call_told.proofs.Telling.{stops_early, zero_again, goes, ring_of}
use Rattle.call_told.proofs.expand_blossom.Goals as goal

pub returns-then-number-ne0 : goal.returns-then-number-ne0
unfolding tests_of
returns-then-number-ne0 c =
    stops_early c.requires (Expand c.args.unit (handle_named c.args.node)) c.expand_number-number.ensures c.if-number-ne0.true c.refused.ensures

pub expand-notices-requires : goal.expand-notices-requires
expand-notices-requires c =
    ring_of c.args.b.now c.requires c.args.unit (handle_named c.args.node) c.expand_number-number.result c.expand_number-number.ensures c.if-number-ne0.false

pub returns : goal.returns
unfolding tests_of tells
returns c =
    let n = c.expand_number-number in
    let m = c.expand_blossom-made in
    let z = zero_again c.requires (Expand c.args.unit (handle_named c.args.node)) n.ensures c.if-number-ne0.false m.ensures.0 in
    goes m.ensures.0 z m.ensures.1 z c.expand-notices.ensures
