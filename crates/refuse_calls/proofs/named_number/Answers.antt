-- The number is that of the first test that holds: STALE before FOREIGN. Assumes nothing.
use mathlib.Core.Path.{sym, ◌∙◌}
use Rattle.ledger_spec.specs.Named.{handle_named}
use Rattle.refuse_calls.proofs.Named.{found, gone, named_no, named_stale, named_foreign, named_fine}
use Rattle.refuse_calls.proofs.named_number.Goals as goal

pub returns-then-number-ne0 : goal.returns-then-number-ne0
returns-then-number-ne0 c = let n = c.unit_number-number in named_no c.args.b.now c.args.unit n.result n.ensures (handle_named c.args.h) c.if-number-ne0.true

pub returns-then-is_none : goal.returns-then-is_none
returns-then-is_none c =
    let n = c.unit_number-number in
    named_stale c.args.b.now c.args.unit n.result n.ensures (handle_named c.args.h) c.if-number-ne0.false
    (gone c.args.b.now (handle_named c.args.h) c.find.result c.find.ensures c.is_none.result c.is_none.ensures c.if-is_none.true)

pub is_foreign-requires : goal.is_foreign-requires
is_foreign-requires c =
    let S = found c.args.b.now (handle_named c.args.h) c.find.result c.find.ensures c.is_none.result c.is_none.ensures c.if-is_none.false in
    record { steady = c.requires.steady; unit_bound = S.unit }

pub returns-then-is_foreign : goal.returns-then-is_foreign
returns-then-is_foreign c =
    let n = c.unit_number-number in
    let S = found c.args.b.now (handle_named c.args.h) c.find.result c.find.ensures c.is_none.result c.is_none.ensures c.if-is_none.false in
    named_foreign c.args.b.now c.args.unit n.result n.ensures (handle_named c.args.h) c.if-number-ne0.false S (sym c.is_foreign.ensures ∙ c.if-is_foreign.true)

pub returns : goal.returns
returns c =
    let n = c.unit_number-number in
    let S = found c.args.b.now (handle_named c.args.h) c.find.result c.find.ensures c.is_none.result c.is_none.ensures c.if-is_none.false in
    named_fine c.args.b.now c.args.unit n.result n.ensures (handle_named c.args.h) c.if-number-ne0.false S (sym c.is_foreign.ensures ∙ c.if-is_foreign.false)
