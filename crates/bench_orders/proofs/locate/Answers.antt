-- At each turn the index in the whole is what is left of it among the slots that are left. Assumes nothing.
use Prim.Native.Nat.{◌+◌, ◌*◌}
use mathlib.Core.Path.{refl}
use native.Mathlib.Omega.{arith}
use lib.ListN.{get_or}
use Rattle.bench_orders.proofs.Counting.{unit_low, used_small, seek_on, seek_ends, seek_past, listed_many, listed_at}
use Rattle.bench_orders.proofs.locate.Goals as goal

pub loop-u-init : goal.loop-u-init
loop-u-init c = record { at = refl; count = omega arith }

pub load_interface-f-requires : goal.load_interface-f-requires
load_interface-f-requires c =
    let o = c.order_of-o in
    let us = c.listed-u-items in
    let i = c.loop-u.u-index in
    let at = listed_at c.args.b.now c.args.unit o.result o.ensures us.result.now us.ensures i c.loop-u-test.true in
    unit_low c.args.b.now c.requires.fit c.args.unit c.requires.unit_bound o.result o.ensures i (get_or us.result.now i 0) at.0 at.1

pub overflow_mul-result : goal.overflow_mul-result
overflow_mul-result c =
    let o = c.order_of-o in
    let us = c.listed-u-items in
    let i = c.loop-u.u-index in
    let at = listed_at c.args.b.now c.args.unit o.result o.ensures us.result.now us.ensures i c.loop-u-test.true in
    let u = unit_low c.args.b.now c.requires.fit c.args.unit c.requires.unit_bound o.result o.ensures i (get_or us.result.now i 0) at.0 at.1 in
    omega (arith, u)

pub overflow_add-result : goal.overflow_add-result
overflow_add-result c =
    let o = c.order_of-o in
    let us = c.listed-u-items in
    let i = c.loop-u.u-index in
    let at = listed_at c.args.b.now c.args.unit o.result o.ensures us.result.now us.ensures i c.loop-u-test.true in
    let u = unit_low c.args.b.now c.requires.fit c.args.unit c.requires.unit_bound o.result o.ensures i (get_or us.result.now i 0) at.0 at.1 in
    let n = used_small c.args.b.now c.requires.fit c.args.unit c.requires.unit_bound o.result o.ensures i (get_or us.result.now i 0) at.0 at.1 c.load_interface-f.result c.load_interface-f.ensures in
    omega (arith, u, n, c.if-rest-f.true)

pub returns-then-rest-f : goal.returns-then-rest-f
returns-then-rest-f c =
    let o = c.order_of-o in
    let us = c.listed-u-items in
    let i = c.loop-u.u-index in
    let at = listed_at c.args.b.now c.args.unit o.result o.ensures us.result.now us.ensures i c.loop-u-test.true in
    seek_ends c.args.b.now c.requires.fit c.args.unit c.requires.unit_bound o.result o.ensures i (get_or us.result.now i 0)
    at.0 at.1 c.load_interface-f.result c.load_interface-f.ensures
    c.args.index c.loop-u.rest (get_or us.result.now i 0 * 64 + c.loop-u.rest) c.loop-u.invariant c.if-rest-f.true refl

pub loop-u-preserved : goal.loop-u-preserved
loop-u-preserved c =
    let o = c.order_of-o in
    let us = c.listed-u-items in
    let i = c.loop-u.u-index in
    let at = listed_at c.args.b.now c.args.unit o.result o.ensures us.result.now us.ensures i c.loop-u-test.true in
    seek_on c.args.b.now c.requires.fit c.args.unit c.requires.unit_bound o.result o.ensures i (get_or us.result.now i 0)
    at.0 at.1 c.load_interface-f.result c.load_interface-f.ensures c.args.index c.loop-u.rest c.loop-u.invariant c.if-rest-f.false

pub returns : goal.returns
returns c =
    let o = c.order_of-o in
    let us = c.listed-u-items in
    seek_past c.args.b.now c.requires.fit c.args.unit c.requires.unit_bound o.result o.ensures c.args.index c.loop-u.rest
    c.loop-u.u-index (omega (arith, c.loop-u-test.false, listed_many c.args.b.now c.args.unit o.result o.ensures us.result.now us.ensures)) c.loop-u.invariant
