-- At each turn the lowest so far and that of the slots that are left make up the whole. Assumes nothing.
use mathlib.Core.Path.{refl}
use native.Mathlib.Omega.{arith}
use lib.ListN.{get_or}
use borrow.Author.Tests.{not-true, not-false}
use Rattle.bench_orders.proofs.Counting.{unit_low}
use Rattle.bench_floors.proofs.Along.{unfloored, leasting_starts, leasting_ends, leasting_on}
use Rattle.bench_floors.proofs.lowest.Goals as goal

pub returns-then-not-marks : goal.returns-then-not-marks
returns-then-not-marks c = unfloored c.args.b.now c.requires.fit c.args.unit c.requires.unit_bound c.requires.unit_value c.load_interface-f.result c.load_interface-f.ensures (not-true _ c.if-not-marks.true)

pub loop-i-init : goal.loop-i-init
loop-i-init c = leasting_starts c.args.b.now c.requires.fit c.args.unit c.requires.unit_bound c.requires.unit_value c.load_interface-f.result c.load_interface-f.ensures

pub bounds-o-i : goal.bounds-o-i
bounds-o-i c = let k = c.order_of-o.ensures.long in omega (arith, c.loop-i-test.true, c.order_of-o.ensures.few)

pub lower_in-low-requires : goal.lower_in-low-requires
lower_in-low-requires c =
    let o = c.order_of-o in
    let i = c.loop-i.i in record { fit = c.requires.fit; u_bound = unit_low c.args.b.now c.requires.fit c.args.unit c.requires.unit_bound o.result o.ensures i (get_or o.result.units i 0) c.loop-i-test.true refl }

pub loop-i-preserved : goal.loop-i-preserved
loop-i-preserved c =
    let i = c.loop-i in
    leasting_on c.args.b.now c.requires.fit c.args.unit c.requires.unit_bound c.requires.unit_value c.load_interface-f.result c.load_interface-f.ensures (not-false _ c.if-not-marks.false) c.order_of-o.result c.order_of-o.ensures i.i i.low i.invariant
    c.loop-i-test.true (get_or c.order_of-o.result.units i.i 0) refl c.lower_in-low.result c.lower_in-low.ensures

pub returns : goal.returns
returns c =
    let o = c.order_of-o in
    let i = c.loop-i in
    leasting_ends c.args.b.now c.requires.fit c.args.unit c.requires.unit_bound c.requires.unit_value c.load_interface-f.result c.load_interface-f.ensures (not-false _ c.if-not-marks.false) o.result o.ensures i.i i.low i.invariant c.loop-i-test.false
