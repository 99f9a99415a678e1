-- Each way out is one of the laws of a touching list's number. Assumes nothing.
use Rattle.refuse_circles.proofs.Touching.{touch_odd, touch_inside, touch_else}
use Rattle.refuse_circles.proofs.touching_number.Goals as goal

pub returns-then-touching-eq1 : goal.returns-then-touching-eq1
returns-then-touching-eq1 c = let a = c.args in touch_odd a.b.now a.unit a.touching.now c.if-touching-eq1.true

pub returns-then-number-eq11 : goal.returns-then-number-eq11
returns-then-number-eq11 c = let a = c.args in touch_inside a.b.now a.unit a.touching.now c.if-touching-eq1.false c.list_number-number.result c.list_number-number.ensures c.if-number-eq11.true

pub returns : goal.returns
returns c = let a = c.args in touch_else a.b.now a.unit a.touching.now c.if-touching-eq1.false c.list_number-number.result c.list_number-number.ensures c.if-number-eq11.false
