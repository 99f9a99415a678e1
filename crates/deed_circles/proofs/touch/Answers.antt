-- The two cases of the test are those of the definition. Assumes nothing.
use native.Mathlib.Omega.{arith}
use Rattle.deed_circles.proofs.Bodies.{touch_none, touch_some}
use Rattle.deed_circles.proofs.touch.Goals as goal

pub returns-then-touching-eq0 : goal.returns-then-touching-eq0
returns-then-touching-eq0 c = let a = c.args in touch_none a.members.now a.touching.now a.i a.d c.handle_of.result (omega arith) c.handle_of.ensures

pub bounds-touching-i : goal.bounds-touching-i
bounds-touching-i c = omega (arith, c.requires.3 c.if-touching-eq0.false)

pub returns : goal.returns
returns c = let a = c.args in touch_some a.members.now a.touching.now a.i a.d c.handle_of-2.result c.if-touching-eq0.false c.handle_of-2.ensures
