-- As the climb, without T. Assumes nothing.
use Rattle.std.specs.Prelude.{Some}
use Prim.Native.Nat.{◌+◌, ◌-◌}
use mathlib.Core.Path.{◌≡◌}
use native.Mathlib.Omega.{arith}
use Rattle.bench_trees.proofs.Climbing.{rising_starts, rising_ends, rising_on, rising_spent}
use Rattle.bench_trees.proofs.top_of.Goals as goal

pub loop-level-init : goal.loop-level-init
loop-level-init c = rising_starts c.args.b.now c.args.unit c.requires

pub returns-in-None : goal.returns-in-None
returns-in-None c =
    let l = c.loop-level in
    let f = c.load_interface-f in
    (rising_ends c.args.b.now c.args.unit l.u (8 - l._level) l.invariant f.result f.ensures (cc), l.invariant.low)

pub loop-level-preserved : goal.loop-level-preserved
loop-level-preserved c =
    let l = c.loop-level in
    let f = c.load_interface-f in
    let q : f.result.parent ≡ Some c.in-Some.p = cc in
    rising_on c.args.b.now c.args.unit l.u (8 - l._level) l.invariant f.result f.ensures (8 - (l._level + 1)) (omega arith) c.in-Some.p q

pub returns : goal.returns
returns c =
    let l = c.loop-level in
    (rising_spent c.args.b.now c.args.unit l.u (8 - l._level) l.invariant (omega arith), l.invariant.low)
