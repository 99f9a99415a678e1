-- The number is that of the first test that holds: DEFECT before MEMBER. Assumes nothing.
use mathlib.Core.Path.{sym, ◌∙◌}
use Rattle.ledger_spec.specs.Named.{handle_named}
use Rattle.refuse_calls.proofs.Named.{expand_no, named_low, expand_defect, expand_fine, expand_member}
use Rattle.refuse_calls.proofs.expand_number.Goals as goal

pub returns-then-number-ne0 : goal.returns-then-number-ne0
returns-then-number-ne0 c = expand_no c.args.b.now c.requires c.args.unit c.named_number-number.result (handle_named c.args.h) c.named_number-number.ensures c.if-number-ne0.true

pub load_node-n-requires : goal.load_node-n-requires
load_node-n-requires c = named_low c.args.b.now c.requires c.args.unit c.named_number-number.result (handle_named c.args.h) c.named_number-number.ensures c.if-number-ne0.false

pub returns-then-not-is_blossom : goal.returns-then-not-is_blossom
returns-then-not-is_blossom c =
    expand_defect c.args.b.now c.requires c.args.unit c.named_number-number.result (handle_named c.args.h) c.named_number-number.ensures c.if-number-ne0.false c.load_node-n.result c.load_node-n.ensures c.is_blossom.result c.is_blossom.ensures (c.if-not-is_blossom.true)

pub returns-then-is_some : goal.returns-then-is_some
returns-then-is_some c =
    let n = c.named_number-number in
    let x = c.load_node-n in
    let p = sym c.is_some.ensures ∙ c.if-is_some.true in
    expand_member c.args.b.now c.requires c.args.unit n.result (handle_named c.args.h) n.ensures c.if-number-ne0.false x.result x.ensures
    c.is_blossom.result c.is_blossom.ensures c.if-not-is_blossom.false p

pub returns : goal.returns
returns c =
    let n = c.named_number-number in
    let x = c.load_node-n in
    let p = sym c.is_some.ensures ∙ c.if-is_some.false in
    expand_fine c.args.b.now c.requires c.args.unit n.result (handle_named c.args.h) n.ensures c.if-number-ne0.false x.result x.ensures
    c.is_blossom.result c.is_blossom.ensures c.if-not-is_blossom.false p
