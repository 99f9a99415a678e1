-- The number is that of the first test that holds. Assumes nothing.
use Rattle.refuse_calls.proofs.Units.{unit_low, defect_no, defect_rest}
use Rattle.refuse_calls.proofs.defect_number.Goals as goal

pub returns-then-number-ne0 : goal.returns-then-number-ne0
returns-then-number-ne0 c = let a = c.args in defect_no a.b.now a.unit c.unit_number-number.result c.unit_number-number.ensures c.if-number-ne0.true

pub room_number-requires : goal.room_number-requires
room_number-requires c = let a = c.args in record { canon = c.requires; unit_bound = unit_low a.b.now a.unit c.unit_number-number.result c.unit_number-number.ensures c.if-number-ne0.false }

pub returns : goal.returns
returns c = let a = c.args in defect_rest a.b.now a.unit c.unit_number-number.result c.unit_number-number.ensures c.if-number-ne0.false c.room_number.result c.room_number.ensures
