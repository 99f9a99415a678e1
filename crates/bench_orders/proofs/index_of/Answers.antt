-- At each turn the index in the whole is that in the slots that are left, counted from the slots passed. Assumes nothing.
use mathlib.Core.Path.{refl, sym, ◌∙◌}
use native.Mathlib.Omega.{arith}
use lib.ListN.{get_or}
use Rattle.ledger_spec.specs.Named.{handle_named}
use Rattle.bench_orders.proofs.Counting.{unit_low, used_small, pass_on, index_there, index_ends, listed_many, listed_at}
use Rattle.bench_orders.proofs.index_of.Goals as goal

pub loop-u-init : goal.loop-u-init
loop-u-init c = record { index = refl; small = omega arith }

pub overflow_add-result : goal.overflow_add-result
overflow_add-result c =
    let o = c.order_of-o in
    let us = c.listed-u-items in
    let many = listed_many c.args.b.now c.args.unit o.result o.ensures us.result.now us.ensures in
    omega (arith, c.loop-u.invariant.small, c.loop-u-test.true, many, o.ensures.few, c.requires.stands.low)

pub overflow_cast-result-then-u-h : goal.overflow_cast-result-then-u-h
overflow_cast-result-then-u-h c =
    let o = c.order_of-o in
    let us = c.listed-u-items in
    let many = listed_many c.args.b.now c.args.unit o.result o.ensures us.result.now us.ensures in
    record { fits = omega (arith, c.loop-u.invariant.small, c.loop-u-test.true, many, o.ensures.few, c.requires.stands.low) }

pub returns-then-u-h : goal.returns-then-u-h
returns-then-u-h c =
    let o = c.order_of-o in
    let us = c.listed-u-items in
    let i = c.loop-u.u-index in
    let at = listed_at c.args.b.now c.args.unit o.result o.ensures us.result.now us.ensures i c.loop-u-test.true in
    sym (c.loop-u.invariant.index
    ∙ index_there c.args.b.now c.requires.fit c.args.unit c.requires.unit_bound o.result o.ensures i
    (get_or us.result.now i 0) at.0 at.1 c.loop-u.passed (handle_named c.args.h) c.if-u-h.true c.requires.stands.slot)

pub load_interface-f-requires : goal.load_interface-f-requires
load_interface-f-requires c =
    let o = c.order_of-o in
    let us = c.listed-u-items in
    let i = c.loop-u.u-index in
    let at = listed_at c.args.b.now c.args.unit o.result o.ensures us.result.now us.ensures i c.loop-u-test.true in
    unit_low c.args.b.now c.requires.fit c.args.unit c.requires.unit_bound o.result o.ensures i (get_or us.result.now i 0) at.0 at.1

pub overflow_add-passed : goal.overflow_add-passed
overflow_add-passed c =
    let o = c.order_of-o in
    let us = c.listed-u-items in
    let i = c.loop-u.u-index in
    let at = listed_at c.args.b.now c.args.unit o.result o.ensures us.result.now us.ensures i c.loop-u-test.true in
    let u = used_small c.args.b.now c.requires.fit c.args.unit c.requires.unit_bound o.result o.ensures i (get_or us.result.now i 0) at.0 at.1 c.load_interface-f.result c.load_interface-f.ensures in
    omega (arith, u, c.loop-u.invariant.small, c.loop-u-test.true, c.order_of-o.ensures.few)

pub loop-u-preserved : goal.loop-u-preserved
loop-u-preserved c =
    let o = c.order_of-o in
    let us = c.listed-u-items in
    let i = c.loop-u.u-index in
    let at = listed_at c.args.b.now c.args.unit o.result o.ensures us.result.now us.ensures i c.loop-u-test.true in
    pass_on c.args.b.now c.requires.fit c.args.unit c.requires.unit_bound o.result o.ensures i (get_or us.result.now i 0)
    at.0 at.1 c.load_interface-f.result c.load_interface-f.ensures
    c.loop-u.passed (handle_named c.args.h) c.loop-u.invariant c.if-u-h.false

pub returns : goal.returns
returns c =
    let o = c.order_of-o in
    let us = c.listed-u-items in
    index_ends c.args.b.now c.requires.fit c.args.unit c.requires.unit_bound o.result o.ensures (handle_named c.args.h)
    c.loop-u.u-index c.loop-u.passed (omega (arith, c.loop-u-test.false, listed_many c.args.b.now c.args.unit o.result o.ensures us.result.now us.ensures)) c.loop-u.invariant
