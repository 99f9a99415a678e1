-- A number below 0 is a minus and the decimal of its size; others are their decimal. Assumes nothing.
use mathlib.Core.Path.{sym}
use Rattle.text_decimals.proofs.Signs.{turned, plain}
use Rattle.picture_pieces.proofs.Drawing.{chain, same_text}
use Rattle.picture_pieces.proofs.put_signed.Goals as goal

pub overflow_sub-z : goal.overflow_sub-z
overflow_sub-z c =
    (turned c.args.z c.ranges.z c.if-z-lt0.true).fits

pub overflow_cast-z : goal.overflow_cast-z
overflow_cast-z c =
    (turned c.args.z c.ranges.z c.if-z-lt0.true).whole

pub overflow_add-z : goal.overflow_add-z
overflow_add-z c =
    (turned c.args.z c.ranges.z c.if-z-lt0.true).more

pub returns-then-z-lt0 : goal.returns-then-z-lt0
returns-then-z-lt0 c =
    same_text (sym (turned c.args.z c.ranges.z c.if-z-lt0.true).text) (chain c.put-p.ensures c.put_number.ensures)

pub overflow_cast-z-2 : goal.overflow_cast-z-2
overflow_cast-z-2 c = (plain c.args.z c.ranges.z c.if-z-lt0.false).whole

pub returns : goal.returns
returns c =
    same_text (sym (plain c.args.z c.ranges.z c.if-z-lt0.false).text) c.put_number-2.ensures
