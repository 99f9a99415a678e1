-- A word passed does not come again, so what is left of the list decides. Assumes nothing.
use mathlib.Core.Path.{refl, sym, ◌∙◌}
use native.Mathlib.Omega.{arith}
use Rattle.refuse_circles.proofs.Twice.{in_at, still_here, still_on, still_end}
use Rattle.refuse_circles.proofs.compared_twice.Goals as goal

pub loop-i-init : goal.loop-i-init
loop-i-init c = refl

pub again-requires : goal.again-requires
again-requires c = (c.requires, in_at c.args.ws.now c.loop-i.i c.loop-i-test.true)

pub returns-then-again : goal.returns-then-again
returns-then-again c =
    sym (c.loop-i.invariant ∙ still_here c.args.ws.now c.loop-i.i c.loop-i-test.true (sym c.again.ensures ∙ c.if-again.true))

pub loop-i-preserved : goal.loop-i-preserved
loop-i-preserved c =
    c.loop-i.invariant ∙ still_on c.args.ws.now c.loop-i.i c.loop-i-test.true (sym c.again.ensures ∙ c.if-again.false)

pub returns : goal.returns
returns c = sym (c.loop-i.invariant ∙ still_end c.args.ws.now c.loop-i.i (omega arith))
