-- The number is that of the first test that holds. Assumes nothing.
use Rattle.refuse_calls.proofs.Units.{unit_low, mark_no, mark_late, mark_fine}
use Rattle.refuse_calls.proofs.mark_number.Goals as goal

pub returns-then-number-ne0 : goal.returns-then-number-ne0
returns-then-number-ne0 c = let a = c.args in mark_no a.b.now a.unit c.unit_number-number.result c.unit_number-number.ensures c.if-number-ne0.true

pub is_late-requires : goal.is_late-requires
is_late-requires c = let a = c.args in unit_low a.b.now a.unit c.unit_number-number.result c.unit_number-number.ensures c.if-number-ne0.false

pub returns-then-is_late : goal.returns-then-is_late
returns-then-is_late c = let a = c.args in mark_late a.b.now a.unit c.unit_number-number.result c.unit_number-number.ensures c.if-number-ne0.false c.is_late.result c.is_late.ensures c.if-is_late.true

pub returns : goal.returns
returns c = let a = c.args in mark_fine a.b.now a.unit c.unit_number-number.result c.unit_number-number.ensures c.if-number-ne0.false c.is_late.result c.is_late.ensures c.if-is_late.false
