-- The number is that of the first test that holds. Assumes nothing.
use mathlib.Core.Path.{sym, ◌∙◌}
use Rattle.ledger_spec.specs.Named.{handle_named}
use Rattle.refuse_calls.proofs.Named.{state_no, named_low, state_fine, state_member}
use Rattle.refuse_calls.proofs.state_number.Goals as goal

pub returns-then-number-ne0 : goal.returns-then-number-ne0
returns-then-number-ne0 c = state_no c.args.b.now c.requires c.args.unit c.named_number-number.result (handle_named c.args.h) c.named_number-number.ensures c.if-number-ne0.true

pub load_node-node-requires : goal.load_node-node-requires
load_node-node-requires c = named_low c.args.b.now c.requires c.args.unit c.named_number-number.result (handle_named c.args.h) c.named_number-number.ensures c.if-number-ne0.false

pub returns-then-is_some : goal.returns-then-is_some
returns-then-is_some c =
    let n = c.named_number-number in
    let p = sym c.is_some.ensures ∙ c.if-is_some.true in
    state_member c.args.b.now c.requires c.args.unit n.result (handle_named c.args.h) n.ensures c.if-number-ne0.false c.load_node-node.result c.load_node-node.ensures p

pub returns : goal.returns
returns c =
    let n = c.named_number-number in
    let p = sym c.is_some.ensures ∙ c.if-is_some.false in
    state_fine c.args.b.now c.requires c.args.unit n.result (handle_named c.args.h) n.ensures c.if-number-ne0.false c.load_node-node.result c.load_node-node.ensures p
