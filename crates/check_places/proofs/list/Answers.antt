-- After i interfaces their slots stand listed, and what is left of the tree's slots comes after. Assumes nothing.
use mathlib.Core.Path.{◌≡◌}
use native.Mathlib.Omega.{arith}
use Rattle.check_places.proofs.Filling.{listing_starts, room, reach, listing_on, listing_ends}
use Rattle.bench_orders.proofs.Listed.{listed_long, listed_at}
use Rattle.bench_orders.proofs.Counting.{unit_low}
use Rattle.check_places.proofs.list.Goals as goal

pub loop-u-init : goal.loop-u-init
loop-u-init c = listing_starts c.args.b.now c.args.unit c.args.out.now c.requires.out_len

pub load_interface-f-requires : goal.load_interface-f-requires
load_interface-f-requires c =
    let o = c.order_of-o in
    let u = listed_at o.ensures c.loop-u-test.true in
    unit_low c.args.b.now c.requires.fit c.args.unit c.requires.unit_bound o.result o.ensures c.loop-u.u-index _ u.0 u.1

pub overflow_mul-u : goal.overflow_mul-u
overflow_mul-u c =
    let r = c.requires in
    let o = c.order_of-o in
    let l = c.loop-u in
    let f = c.load_interface-f in
    let u = listed_at o.ensures c.loop-u-test.true in
    omega (arith, reach c.args.b.now r.fit c.args.unit r.unit_bound o.result o.ensures l.u-index l.n l.out l.invariant _ u.0 u.1 f.result f.ensures)

pub fill-n-requires : goal.fill-n-requires
fill-n-requires c =
    let r = c.requires in
    let o = c.order_of-o in
    let l = c.loop-u in
    let f = c.load_interface-f in
    let u = listed_at o.ensures c.loop-u-test.true in
    record {
      out_len = l.invariant.long;
      many_bound = room c.args.b.now r.fit c.args.unit r.unit_bound o.result o.ensures l.u-index l.n l.out l.invariant _ u.0 u.1 f.result f.ensures;
      many_bound_2 = reach c.args.b.now r.fit c.args.unit r.unit_bound o.result o.ensures l.u-index l.n l.out l.invariant _ u.0 u.1 f.result f.ensures;
    }

pub loop-u-preserved : goal.loop-u-preserved
loop-u-preserved c =
    let r = c.requires in
    let o = c.order_of-o in
    let l = c.loop-u in
    let f = c.load_interface-f in
    let u = listed_at o.ensures c.loop-u-test.true in
    let n = c.fill-n in
    listing_on c.args.b.now r.fit c.args.unit r.unit_bound o.result o.ensures l.u-index l.n l.out l.invariant _ u.0 u.1 f.result f.ensures
    n.new.out n.result n.ensures

pub returns : goal.returns
returns c =
    let o = c.order_of-o in
    let l = c.loop-u in
    let last : l.u-index ≡ o.result.count = omega (arith, listed_long o.ensures) in
    listing_ends c.args.b.now c.requires.fit c.args.unit c.requires.unit_bound o.result o.ensures l.u-index l.n l.out last l.invariant
