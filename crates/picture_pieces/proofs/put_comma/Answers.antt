-- Nothing before the first item, a comma before any other. Assumes nothing.
use Rattle.picture_pieces.proofs.Drawing.{drawn_none, same_text, comma_first, comma_other}
use Rattle.picture_pieces.proofs.put_comma.Goals as goal

pub returns-then-i-eq0 : goal.returns-then-i-eq0
returns-then-i-eq0 c = same_text (comma_first c.args.i c.if-i-eq0.true) drawn_none

pub returns : goal.returns
returns c =
    same_text (comma_other c.args.i c.if-i-eq0.false) c.put.ensures
