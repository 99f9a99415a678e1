-- By the flag. Assumes nothing.
use Rattle.picture_pieces.proofs.Drawing.{same_text, either_one, either_other}
use Rattle.picture_pieces.proofs.put_either.Goals as goal

pub returns-then-which : goal.returns-then-which
returns-then-which c = let s = c.args in same_text (either_one s.which s.one.now s.other.now c.if-which.true) c.put.ensures

pub returns : goal.returns
returns c = let s = c.args in same_text (either_other s.which s.one.now s.other.now c.if-which.false) c.put-2.ensures
