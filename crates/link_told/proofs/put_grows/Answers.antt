-- The loop follows the circle's links, and tells a member a turn to grow. Assumes nothing.
use Prim.Native.Nat.{◌<◌}
use mathlib.Core.Path.{◌≡◌}
use native.Mathlib.Omega.{arith}
use Rattle.bench_words.specs.Store.{node_at}
use Rattle.outcome_notices.proofs.Telling.{walk_none, walk_more}
use Rattle.link_told.proofs.Writing.{grow_none, grow_more}
use Rattle.link_told.proofs.put_grows.Goals as goal
use Rattle.link_told.proofs.put_grows.Goals.{In-loop-i}

-- a member's position
reached : (c : In-loop-i) → c.loop-i.at < 512
reached c = omega (arith, c.requires.low c.loop-i.i c.loop-i-test.true, c.loop-i.invariant.0)

pub loop-i-init : goal.loop-i-init
loop-i-init c = (walk_none (node_at c.args.b.now) c.args.first, grow_none c.args.b.now c.args.first c.args.out.now)

pub load_node-m-requires : goal.load_node-m-requires
load_node-m-requires c = reached (goal.at.load_node-m-requires c).In-loop-i

pub overflow_cast-at : goal.overflow_cast-at
overflow_cast-at c = omega (arith, reached (goal.at.overflow_cast-at c).In-loop-i)

pub bounds-out-to : goal.bounds-out-to
bounds-out-to c = omega (arith, c.requires.few)

pub loop-i-preserved : goal.loop-i-preserved
loop-i-preserved c =
    let l = c.loop-i in
    let m = c.load_node-m in
    let w = c.node_word-w in
    let b = c.args.b.now in
    let f = c.args.first in (
      walk_more (node_at b) f l.i l.at m.result l.invariant.0 m.ensures,
      grow_more b f l.i l.at m.result c.args.out.now l.out w.result l.invariant.0 m.ensures w.ensures l.invariant.1,
    )

pub returns : goal.returns
returns c =
    let last : c.loop-i.i ≡ c.args.count = omega arith in
    rw (← last) c.loop-i.invariant.1
