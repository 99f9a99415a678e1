-- The loop takes the members in one by one, with the size and the speed so far; then the blossom is pushed. Assumes nothing.
use mathlib.Core.Path.{ap}
use native.Mathlib.Omega.{arith}
use Rattle.bench_words.specs.declared.Interface.{Interface}
use Rattle.bench_views.proofs.Sums.{lag_le}
use Rattle.deed_circles.proofs.Givens.{ringable}
use Rattle.deed_circles.proofs.Bodies.{loop_begins, loop_range, loop_steady, loop_total, loop_ranged, loop_size, loop_turns, loop_ready, loop_ends}
use Rattle.deed_circles.proofs.add_blossom.Goals as goal

pub load_interface-f-requires : goal.load_interface-f-requires
load_interface-f-requires c = let a = c.args in (ringable a.b.now a.unit a.members.now a.touching.now c.requires.0 c.requires.1).root.low

pub free_slot-slot-requires : goal.free_slot-slot-requires
free_slot-slot-requires c =
    let a = c.args in
    let r = ringable a.b.now a.unit a.members.now a.touching.now c.requires.0 c.requires.1 in
    record { canon = c.requires.0.canon; unit_bound = r.root.low }

pub overflow_cast-serial : goal.overflow_cast-serial
overflow_cast-serial c =
    let r = ringable c.args.b.now c.args.unit c.args.members.now c.args.touching.now c.requires.0 c.requires.1 in
    omega (arith, r.next, c.load_next-next.ensures)

pub overflow_cast-q : goal.overflow_cast-q
overflow_cast-q c =
    let r = ringable c.args.b.now c.args.unit c.args.members.now c.args.touching.now c.requires.0 c.requires.1 in
    omega (arith, r.root.low)

pub loop-i-init : goal.loop-i-init
loop-i-init c =
    let a = c.args in
    let f = c.load_interface-f in
    loop_begins a.b.now a.unit a.members.now a.touching.now f.result c.requires.0 c.requires.1 f.ensures c.free_slot-slot.ensures c.load_next-next.ensures

pub seat-requires : goal.seat-requires
seat-requires c = let r = c.loop-i.invariant.ring in (c.loop-i-test.true, r.many, r.paired)

pub take_in-s-requires : goal.take_in-s-requires
take_in-s-requires c =
    let l = c.loop-i.invariant in
    (loop_steady l, loop_ranged l c.loop-i-test.true, loop_total l c.load_interface-f.result c.load_interface-f.ensures c.lag-t.ensures)

pub overflow_add-size : goal.overflow_add-size
overflow_add-size c =
    let l = c.loop-i.invariant in omega (arith, (loop_range l).2, loop_size l c.take_in-s.result.size c.loop-i-test.true c.take_in-s.ensures.1)

pub overflow_add-speed : goal.overflow_add-speed
overflow_add-speed c =
    omega (arith, (loop_range c.loop-i.invariant).1)

pub overflow_sub-speed : goal.overflow_sub-speed
overflow_sub-speed c =
    omega (arith, (loop_range c.loop-i.invariant).0, c.take_in-s.ensures.3)

pub loop-i-preserved : goal.loop-i-preserved
loop-i-preserved c =
    let s = c.take_in-s in
    let e = s.ensures in
    loop_turns c.loop-i.invariant s.new.b s.result.size s.result.rate c.loop-i-test.true c.seat.ensures e.0 e.1 e.2

pub bounds-members-0 : goal.bounds-members-0
bounds-members-0 c = omega (arith, c.loop-i.invariant.ring.some)

pub new_node-n-requires : goal.new_node-n-requires
new_node-n-requires c =
    let l = c.loop-i.invariant in
    let f = c.load_interface-f in
    omega (arith, c.lag-t.ensures, lag_le f.result, l.fit.canon.steady.progress _ l.ring.root.low, ap (λ (x : Interface). x.progress) f.ensures)

pub overflow_add-speed-2 : goal.overflow_add-speed-2
overflow_add-speed-2 c = omega (arith, (loop_range c.loop-i.invariant).1)

pub push-requires : goal.push-requires
push-requires c =
    let l = c.loop-i.invariant in
    let y = loop_ready l _ c.free_slot-slot.ensures in
    (l.ring.root.low, y.0, y.1)

pub returns : goal.returns
returns c =
    let f = c.load_interface-f in
    let slot = c.free_slot-slot.ensures in
    let next = c.load_next-next.ensures in
    loop_ends c.loop-i.invariant f.result (omega arith) f.ensures slot next c.spot-first.ensures.0 c.lag-t.ensures c.new_node-n.ensures c.push.ensures
