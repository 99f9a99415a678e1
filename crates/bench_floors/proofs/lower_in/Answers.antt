-- At each turn the lowest so far and that of the slots that are left make up the whole. Assumes nothing.
use Prim.Native.Nat.{◌+◌, ◌*◌}
use mathlib.Core.Path.{refl}
use native.Mathlib.Omega.{arith}
use Rattle.bench_floors.proofs.Along.{lowering_starts, lowering_ends, lowering_on, slot_low, slot_there}
use Rattle.bench_floors.proofs.lower_in.Goals as goal

pub climb-c-requires : goal.climb-c-requires
climb-c-requires c = record { unit_bound = c.requires.u_bound; steady = c.requires.fit.canon.steady }

pub loop-s-init : goal.loop-s-init
loop-s-init c = lowering_starts c.args.b.now c.args.u c.args.m

pub overflow_add-u : goal.overflow_add-u
overflow_add-u c = let l = slot_low c.args.b.now c.requires.fit c.args.u c.requires.u_bound c.load_interface-f.result c.load_interface-f.ensures c.loop-s.s c.loop-s-test.true in
    record { fits = omega (arith, l, c.requires.u_bound) }

pub lower-low-requires : goal.lower-low-requires
lower-low-requires c =
    let there = slot_there c.args.b.now c.requires.fit c.args.u c.requires.u_bound c.load_interface-f.result c.load_interface-f.ensures c.loop-s.s c.loop-s-test.true c.climb-c.result.total c.climb-c.ensures.total in
    record { fit = c.requires.fit; k_bound = there.0; k_bound_2 = there.1.0; t_value = there.1.1 }

pub loop-s-preserved : goal.loop-s-preserved
loop-s-preserved c = let f = c.load_interface-f in
    let i = c.loop-s in
    lowering_on c.args.b.now c.args.u c.args.m c.requires.u_bound f.result f.ensures i.s i.low i.invariant c.loop-s-test.true (c.args.u * 64 + i.s) refl
    (slot_low c.args.b.now c.requires.fit c.args.u c.requires.u_bound f.result f.ensures i.s c.loop-s-test.true) c.lower-low.result c.lower-low.ensures

pub returns : goal.returns
returns c = let f = c.load_interface-f in
    let i = c.loop-s in
    lowering_ends c.args.b.now c.args.u c.args.m c.requires.u_bound f.result f.ensures i.s i.low i.invariant c.loop-s-test.false
