-- The progress of those before u is added up. Assumes nothing.
use native.Mathlib.Omega.{arith}
use Rattle.sound_trees.proofs.Rows.{adding_none, adding_more, adding_done}
use Rattle.sound_trees.proofs.width.Goals as goal

pub loop-u-init : goal.loop-u-init
loop-u-init c = adding_none c.args.b.now c.args.top

pub overflow_add-w : goal.overflow_add-w
overflow_add-w c = omega (arith, c.progress_under-w.ensures.1, c.loop-u.invariant.small)

pub loop-u-preserved : goal.loop-u-preserved
loop-u-preserved c = adding_more c.args.b.now c.args.top c.loop-u.w c.loop-u.u c.progress_under-w.result c.loop-u.invariant c.loop-u-test.true c.progress_under-w.ensures

pub returns : goal.returns
returns c = adding_done c.args.b.now c.args.top c.loop-u.w c.loop-u.u c.loop-u.invariant c.loop-u-test.false
