-- The shares of the slots before s are added up. Assumes nothing.
use native.Mathlib.Omega.{arith}
use Rattle.sound_tops.specs.Tops.{rate_in}
use Rattle.sound_tops.proofs.Pacing.{adding_none, adding_more, adding_done, rate_known}
use Rattle.sound_tops.proofs.rates.Goals as goal

pub loop-s-init : goal.loop-s-init
loop-s-init c = adding_none (rate_in c.args.b.now c.args.u) 2 c.args.used

pub overflow_add-total : goal.overflow_add-total
overflow_add-total c = omega (arith, c.rate_of-total.ensures.1, c.loop-s.invariant.small, c.loop-s.invariant.low, c.requires.used_bound)

pub loop-s-preserved : goal.loop-s-preserved
loop-s-preserved c = adding_more (rate_in c.args.b.now c.args.u) 2 c.args.used c.loop-s.total c.loop-s.s c.rate_of-total.result c.loop-s.invariant c.loop-s-test.true (rate_known c.args.b.now c.args.u c.loop-s.s c.load_node-n.result c.rate_of-total.result c.load_node-n.ensures c.rate_of-total.ensures.0) c.rate_of-total.ensures.1 (omega arith)

pub returns : goal.returns
returns c = let d = adding_done (rate_in c.args.b.now c.args.u) 2 c.args.used c.loop-s.total c.loop-s.s c.loop-s.invariant c.loop-s-test.false in (d.0, omega (arith, d.1, c.loop-s.invariant.low, c.requires.used_bound))
