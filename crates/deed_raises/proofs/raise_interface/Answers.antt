-- The slots before s are done. Assumes nothing.
use Prim.Native.Nat.{◌<◌}
use mathlib.Core.Path.{◌≡◌}
use native.Mathlib.Omega.{arith}
use Rattle.bench_words.specs.Store.{interface_at}
use Rattle.deed_raises.proofs.Raising.{raised_none, raised_more, movable_now}
use Rattle.deed_raises.proofs.raise_interface.Goals as goal

pub loop-s-init : goal.loop-s-init
loop-s-init c = raised_none c.args.b.now c.args.unit c.args.length c.requires.steady c.requires.coded

-- slot s is in use, and an interface has 64 slots
in_use : (c : goal.After-raise_slot-arg-1) → (c.loop-s.s < (interface_at c.args.b.now c.args.unit).used) × (c.loop-s.s < 64)
in_use c =
    let s : c.loop-s.s < (interface_at c.args.b.now c.args.unit).used = rw (← c.load_interface-f.ensures) c.loop-s-test.true in
    (s, omega (arith, c.requires.steady.slots c.args.unit c.requires.unit_bound))

pub overflow_add-unit : goal.overflow_add-unit
overflow_add-unit c = omega (arith, in_use c)

pub raise_slot-requires : goal.raise_slot-requires
raise_slot-requires c =
    let l = c.loop-s in
    let s = in_use c in
    record {
      k_bound = omega (arith, s.1);
      movable = movable_now c.args.b.now c.args.unit c.args.length c.requires.unit_bound l.b l.s l.invariant s.1 (c.requires.all_movable l.s s.0);
    }

pub loop-s-preserved : goal.loop-s-preserved
loop-s-preserved c =
    let l = c.loop-s in
    raised_more c.args.b.now c.args.unit c.args.length c.requires.unit_bound l.b l.s l.invariant (in_use c.before).1 c.raise_slot.ensures

pub returns : goal.returns
returns c =
    let last : c.loop-s.s ≡ c.load_interface-f.result.used = omega (arith, c.loop-s.auto, c.loop-s-test.false) in
    rw (← c.load_interface-f.ensures, ← last) c.loop-s.invariant
