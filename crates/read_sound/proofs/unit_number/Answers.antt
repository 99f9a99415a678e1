-- The number is that of the first test that holds. Assumes nothing.
use borrow.Author.Rules.{rules}
use Rattle.read_sound.proofs.Numbers.{number_out, number_child, number_free}
use Rattle.read_sound.proofs.unit_number.Goals as goal

pub returns-then-unit-ge8 : goal.returns-then-unit-ge8
returns-then-unit-ge8 c = number_out c.args.b.now c.args.unit c.if-unit-ge8.true

pub returns-in-Some : goal.returns-in-Some
returns-in-Some c = number_child c.args.b.now c.args.unit c.if-unit-ge8.false c.load_interface.result c.load_interface.ensures c.in-Some.field-0 (cc)

pub returns-in-None : goal.returns-in-None
returns-in-None c = number_free c.args.b.now c.args.unit c.if-unit-ge8.false c.load_interface.result c.load_interface.ensures (cc)
