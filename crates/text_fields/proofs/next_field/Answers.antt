-- A field starts after the space that ends the one before it. Assumes nothing.
use Rattle.text_fields.proofs.Steps.{field_next, field_none}
use borrow.Author.Rules.{rules}
use Rattle.text_fields.proofs.next_field.Goals as goal

pub returns-then-place-s : goal.returns-then-place-s
returns-then-place-s c = field_next c.args.s.now c.args.place c.part_end-e.result c.if-place-s.true c.part_end-e.ensures

pub returns : goal.returns
returns c = field_none c.args.s.now c.args.place c.if-place-s.false
