-- The list of a tree is that of its left half, of its right half, and the interface itself. Assumes nothing.
use Rattle.std.proofs.Common.{ℕ, List, length, arith, ap, sym, subst}
use Rattle.bench_orders.specs.Order.{Longer}
use Rattle.bench_orders.proofs.Listing.{alone, left_lower, right_lower, parts, joined}
use Rattle.bench_orders.proofs.+list.Goals as goal

pub push-requires : goal.push-requires
push-requires t c =
    let f = c.load_interface-f in
    omega (arith, c.requires.unit_bound_2, ap length (alone c.args.b.now c.args.unit c.requires.unit_bound f.result f.ensures c.if-f-eq0.true))

pub returns-then-f-eq0 : goal.returns-then-f-eq0
returns-then-f-eq0 t c =
    let f = c.load_interface-f in
    subst (λ (us : List ℕ). Longer c.args.o us c.push.result)
    (sym (alone c.args.b.now c.args.unit c.requires.unit_bound f.result f.ensures c.if-f-eq0.true))
    c.push.ensures

pub list-l-requires : goal.list-l-requires
list-l-requires t c =
    let b = c.args.b.now in
    let u = c.args.unit in
    let f = c.load_interface-f in
    let l = left_lower b u c.requires.unit_bound f.result f.ensures c.if-f-eq0.false c.requires.fit in
    let p = parts b u c.requires.unit_bound f.result f.ensures c.if-f-eq0.false c.requires.fit in
    (omega (arith, l, c.decreases), (c.requires.fit, (omega (arith, l, c.requires.unit_bound), omega (arith, p, c.requires.unit_bound_2))))

pub list-r-requires : goal.list-r-requires
list-r-requires t c =
    let b = c.args.b.now in
    let u = c.args.unit in
    let f = c.load_interface-f in
    let l = right_lower b u c.requires.unit_bound f.result f.ensures c.if-f-eq0.false c.requires.fit in
    let p = parts b u c.requires.unit_bound f.result f.ensures c.if-f-eq0.false c.requires.fit in
    (omega (arith, l, c.decreases), (c.requires.fit, (omega (arith, l, c.requires.unit_bound), omega (arith, p, c.requires.unit_bound_2, c.list-l.ensures.count))))

pub push-requires-2 : goal.push-requires-2
push-requires-2 t c =
    let f = c.load_interface-f in
    let p = parts c.args.b.now c.args.unit c.requires.unit_bound f.result f.ensures c.if-f-eq0.false c.requires.fit in
    omega (arith, p, c.requires.unit_bound_2, c.list-l.ensures.count, c.list-r.ensures.count)

pub returns : goal.returns
returns t c =
    let f = c.load_interface-f in
    joined c.args.b.now c.args.unit c.requires.unit_bound f.result f.ensures c.if-f-eq0.false c.requires.fit
    c.args.o c.list-l.result c.list-r.result c.push-2.result c.list-l.ensures c.list-r.ensures c.push-2.ensures
