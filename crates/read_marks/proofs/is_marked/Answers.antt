-- A refusal has its number and no; else the interface's own mark. Assumes nothing.
use borrow.Author.Rules.{rules}
use Rattle.read_marks.proofs.Marks.{mark_no, fills_yes, floored_yes, low}
use Rattle.read_marks.proofs.is_marked.Goals as goal

pub returns-then-number-ne0 : goal.returns-then-number-ne0
returns-then-number-ne0 c = let n = c.unit_number-number in mark_no c.args.b.now c.args.unit n.result n.ensures c.if-number-ne0.true c.args.floor

pub load_interface-f-requires : goal.load_interface-f-requires
load_interface-f-requires c = let n = c.unit_number-number in low c.args.b.now c.args.unit n.result n.ensures c.if-number-ne0.false

pub returns-then-floor : goal.returns-then-floor
returns-then-floor c =
    let n = c.unit_number-number in
    rw c.if-floor.true (floored_yes c.args.b.now c.args.unit n.result n.ensures c.if-number-ne0.false c.load_interface-f.result c.load_interface-f.ensures)

pub returns : goal.returns
returns c =
    let n = c.unit_number-number in
    rw c.if-floor.false (fills_yes c.args.b.now c.args.unit n.result n.ensures c.if-number-ne0.false c.load_interface-f.result c.load_interface-f.ensures)
