-- The shares of those before u are added up. Assumes nothing.
use native.Mathlib.Omega.{arith}
use Rattle.sound_tops.specs.Tops.{pace_under}
use Rattle.sound_tops.proofs.Pacing.{adding_none, adding_more, adding_done, paced}
use Rattle.sound_tops.proofs.pace.Goals as goal

pub loop-u-init : goal.loop-u-init
loop-u-init c = adding_none (pace_under c.args.b.now c.args.top) 192 8

pub pace_under-total-requires : goal.pace_under-total-requires
pace_under-total-requires c = record { steady = c.requires; u_bound = omega arith }

pub overflow_add-total : goal.overflow_add-total
overflow_add-total c = omega (arith, c.pace_under-total.ensures.1, c.loop-u.invariant.small, c.loop-u.invariant.low)

pub loop-u-preserved : goal.loop-u-preserved
loop-u-preserved c = adding_more (pace_under c.args.b.now c.args.top) 192 8 c.loop-u.total c.loop-u.u c.pace_under-total.result c.loop-u.invariant c.loop-u-test.true c.pace_under-total.ensures.0 c.pace_under-total.ensures.1 (omega arith)

pub returns : goal.returns
returns c = let d = adding_done (pace_under c.args.b.now c.args.top) 192 8 c.loop-u.total c.loop-u.u c.loop-u.invariant c.loop-u-test.false in (paced c.args.b.now c.args.top c.loop-u.total d.0, omega (arith, d.1, c.loop-u.invariant.low))
