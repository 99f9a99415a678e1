-- A word passed is another one, so what is left of the list decides. Assumes nothing.
use mathlib.Core.Path.{refl, sym, ◌∙◌}
use native.Mathlib.Omega.{arith}
use Rattle.refuse_circles.proofs.Twice.{after_here, after_on, after_end}
use Rattle.refuse_circles.proofs.again.Goals as goal

pub loop-i-init : goal.loop-i-init
loop-i-init c = refl

pub returns-then-ws-i : goal.returns-then-ws-i
returns-then-ws-i c = sym (c.loop-i.invariant ∙ after_here c.args.ws.now c.args.w c.loop-i.i c.loop-i-test.true c.if-ws-i.true)

pub loop-i-preserved : goal.loop-i-preserved
loop-i-preserved c = c.loop-i.invariant ∙ after_on c.args.ws.now c.args.w c.requires.0 c.requires.1 c.loop-i.i c.loop-i-test.true c.if-ws-i.false

pub returns : goal.returns
returns c = sym (c.loop-i.invariant ∙ after_end c.args.ws.now c.args.w c.loop-i.i (omega arith))
