-- At each turn the count so far and that of the slots that are left make up the whole. Assumes nothing.
use Prim.Native.Nat.{◌≤◌}
use native.Mathlib.Omega.{arith}
use Rattle.bench_orders.proofs.Counting.{unit_low}
use Rattle.bench_orders.proofs.Listed.{listed_long, listed_at}
use Rattle.read_present.proofs.Walking.{sum_on, sum_ends}
use Rattle.read_present.proofs.total.Goals as goal

pub loop-u-init : goal.loop-u-init
loop-u-init c = record { sum = omega arith; small = omega arith }

pub marked-sum-requires : goal.marked-sum-requires
marked-sum-requires c =
    let o = c.order_of-o in
    let u = listed_at o.ensures c.loop-u-test.true in
    let F = c.requires.fit in
    record { fit = F; u_bound = unit_low c.args.b.now F c.args.unit c.requires.unit_bound o.result o.ensures c.loop-u.u-index _ u.0 u.1 }

pub overflow_add-sum : goal.overflow_add-sum
overflow_add-sum c =
    let u = (listed_at c.order_of-o.ensures c.loop-u-test.true).0 in
    omega (arith, c.marked-sum.ensures.1, c.loop-u.invariant.small, c.order_of-o.ensures.few)

pub loop-u-preserved : goal.loop-u-preserved
loop-u-preserved c =
    let o = c.order_of-o in
    let l = c.loop-u in
    let m = c.marked-sum in
    let u = listed_at o.ensures c.loop-u-test.true in
    sum_on c.args.b.now c.requires.fit c.args.unit c.requires.unit_bound o.result o.ensures l.u-index _ u.0 u.1 l.sum m.result m.ensures l.invariant

pub returns : goal.returns
returns c =
    let o = c.order_of-o in
    let l = c.loop-u in
    let last : o.result.count ≤ l.u-index = omega (arith, listed_long o.ensures) in
    sum_ends c.args.b.now c.requires.fit c.args.unit c.requires.unit_bound o.result o.ensures l.u-index l.sum last l.invariant
