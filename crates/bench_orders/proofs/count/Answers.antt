-- At each turn the count so far and the slots that are left make up the whole. Assumes nothing.
use native.Mathlib.Omega.{arith}
use lib.ListN.{get_or}
use Rattle.bench_orders.proofs.Counting.{unit_low, used_small, count_on, count_ends, listed_many, listed_at}
use Rattle.bench_orders.proofs.count.Goals as goal

pub loop-u-init : goal.loop-u-init
loop-u-init c = record { sum = omega arith; small = omega arith }

pub load_interface-f-requires : goal.load_interface-f-requires
load_interface-f-requires c =
    let o = c.order_of-o in
    let us = c.listed-u-items in
    let i = c.loop-u.u-index in
    let at = listed_at c.args.b.now c.args.unit o.result o.ensures us.result.now us.ensures i c.loop-u-test.true in
    unit_low c.args.b.now c.requires.fit c.args.unit c.requires.unit_bound o.result o.ensures i (get_or us.result.now i 0) at.0 at.1

pub overflow_add-total : goal.overflow_add-total
overflow_add-total c =
    let o = c.order_of-o in
    let us = c.listed-u-items in
    let f = c.load_interface-f in
    let i = c.loop-u.u-index in
    let at = listed_at c.args.b.now c.args.unit o.result o.ensures us.result.now us.ensures i c.loop-u-test.true in
    let s = used_small c.args.b.now c.requires.fit c.args.unit c.requires.unit_bound o.result o.ensures i (get_or us.result.now i 0) at.0 at.1 f.result f.ensures in
    omega (arith, s, c.loop-u.invariant.small, at.0, o.ensures.few)

pub loop-u-preserved : goal.loop-u-preserved
loop-u-preserved c =
    let o = c.order_of-o in
    let us = c.listed-u-items in
    let f = c.load_interface-f in
    let i = c.loop-u.u-index in
    let at = listed_at c.args.b.now c.args.unit o.result o.ensures us.result.now us.ensures i c.loop-u-test.true in
    count_on c.args.b.now c.requires.fit c.args.unit c.requires.unit_bound o.result o.ensures i (get_or us.result.now i 0)
    at.0 at.1 f.result f.ensures c.loop-u.total c.loop-u.invariant

pub returns : goal.returns
returns c =
    let o = c.order_of-o in
    let us = c.listed-u-items in
    count_ends c.args.b.now c.requires.fit c.args.unit c.requires.unit_bound o.result o.ensures c.loop-u.u-index c.loop-u.total
    (omega (arith, c.loop-u-test.false, listed_many c.args.b.now c.args.unit o.result o.ensures us.result.now us.ensures)) c.loop-u.invariant
