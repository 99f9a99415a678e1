-- The loop goes up by the definitions' own steps, at most eight. Assumes nothing.
use Rattle.std.specs.Prelude.{Some}
use Prim.Native.Nat.{◌+◌, ◌-◌}
use mathlib.Core.Path.{◌≡◌}
use native.Mathlib.Omega.{arith}
use Rattle.bench_trees.proofs.Climbing.{little, going_starts, going_ends, going_on, going_spent}
use Rattle.bench_trees.proofs.climb.Goals as goal

pub loop-step-init : goal.loop-step-init
loop-step-init c = going_starts c.args.b.now c.args.unit c.requires.unit_bound c.requires.steady

pub overflow_add-t : goal.overflow_add-t
overflow_add-t c =
    let l = c.loop-step in
    let f = c.load_interface-f in
    let m = little c.args.b.now c.args.unit l.t l.u (8 - l._step) l.invariant (omega arith) f.result f.ensures in
    omega arith

pub returns-in-None : goal.returns-in-None
returns-in-None c =
    let l = c.loop-step in
    let f = c.load_interface-f in
    going_ends c.args.b.now c.args.unit l.t l.u (8 - l._step) l.invariant (omega arith) f.result f.ensures c.lag-t.ensures (cc)

pub loop-step-preserved : goal.loop-step-preserved
loop-step-preserved c =
    let l = c.loop-step in
    let f = c.load_interface-f in
    let q : f.result.parent ≡ Some c.in-Some.p = cc in
    going_on c.args.b.now c.args.unit l.t l.u (8 - l._step) l.invariant (omega arith) f.result f.ensures c.lag-t.ensures
    (8 - (l._step + 1)) (omega arith) c.in-Some.p q

pub returns : goal.returns
returns c =
    let l = c.loop-step in
    going_spent c.args.b.now c.args.unit l.t l.u (8 - l._step) l.invariant (omega arith)
