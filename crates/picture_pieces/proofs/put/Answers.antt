-- Either the piece is past everything, or there is no room and it is counted, or it is copied. Assumes nothing.
use Rattle.std.proofs.Common.{refl, arith}
use Rattle.picture_pieces.proofs.Drawing.{drawn_past, drawn_counted, drawn_copied}
use Rattle.picture_pieces.proofs.put.Goals as goal

pub returns-then-at-n : goal.returns-then-at-n
returns-then-at-n c = drawn_past (omega (arith, c.if-at-n.true)) refl

pub returns-then-out-at : goal.returns-then-out-at
returns-then-out-at c = drawn_counted (omega (arith, c.if-at-n.false)) refl c.if-out-at.true

pub returns : goal.returns
returns c = drawn_copied (omega (arith, c.if-at-n.false)) (omega (arith, c.if-out-at.false)) c.copy_from_slice.ensures.after refl
