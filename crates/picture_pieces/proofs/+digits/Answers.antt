-- A number's digits are one more than those of its tenth, and at most 20. Assumes nothing.
use Rattle.std.proofs.Common.{sym, ◌/◌, arith}
use Rattle.text_decimals.proofs.Writes.{one_digit, room}
use Rattle.text_decimals.proofs.Widths.{width}
use Rattle.picture_pieces.proofs.+digits.Goals as goal

pub returns-then-n-lt10 : goal.returns-then-n-lt10
returns-then-n-lt10 t c = sym (one_digit c.args.n c.if-n-lt10.true)

pub overflow_add-result : goal.overflow_add-result
overflow_add-result t c = omega (arith, c.digits.ensures, width 19 (c.args.n / 10) (omega arith))

pub returns : goal.returns
returns t c = omega (arith, c.digits.ensures, room c.args.n c.if-n-lt10.false)
