-- The digits before the last are written by the call within, which has fewer: n / 10 is below n. Assumes nothing.
use Rattle.std.proofs.Common.{arith}
use Rattle.text_decimals.proofs.Writes.{one_digit, room, first_digit, last_digit}
use Rattle.text_decimals.proofs.+put_number.Goals as goal

pub bounds-out-at : goal.bounds-out-at
bounds-out-at t c = omega (arith, one_digit c.args.n c.if-n-lt10.true, c.requires)

pub returns-then-n-lt10 : goal.returns-then-n-lt10
returns-then-n-lt10 t c = first_digit c.args.out.now c.args.at c.args.n c.if-n-lt10.true

pub put_number-p-requires : goal.put_number-p-requires
put_number-p-requires t c = (omega arith, omega (arith, room c.args.n c.if-n-lt10.false, c.requires))

pub bounds-out-p : goal.bounds-out-p
bounds-out-p t c = omega (arith, room c.args.n c.if-n-lt10.false, c.requires, c.put_number-p.ensures.next, c.put_number-p.auto.out)

pub overflow_add-result-2 : goal.overflow_add-result-2
overflow_add-result-2 t c = omega (arith, room c.args.n c.if-n-lt10.false, c.requires, c.put_number-p.ensures.next)

pub returns : goal.returns
returns t c = last_digit c.args.out.now c.args.at c.args.n _ c.put_number-p.result c.if-n-lt10.false c.put_number-p.ensures
