-- Its digits are counted first, and then it is past everything, counted, or written. Assumes nothing.
use native.Mathlib.Omega.{arith}
use mathlib.Core.Path.{refl}
use Rattle.picture_pieces.proofs.Drawing.{drawn_past, drawn_counted, drawn_wrote}
use Rattle.picture_pieces.proofs.put_number.Goals as goal

pub returns-then-at-d : goal.returns-then-at-d
returns-then-at-d c = drawn_past (omega (arith, c.digits-d.ensures, c.if-at-d.true)) refl

pub returns-then-out-at : goal.returns-then-out-at
returns-then-out-at c = drawn_counted (omega (arith, c.digits-d.ensures, c.if-at-d.false)) (omega (arith, c.digits-d.ensures)) (omega (arith, c.digits-d.ensures, c.if-out-at.true))

pub returns : goal.returns
returns c =
    drawn_wrote (omega (arith, c.digits-d.ensures, c.if-at-d.false)) c.put_number.ensures
