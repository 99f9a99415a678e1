-- A word of 2^63 or more is turned round before it is cast. Assumes nothing.
use Rattle.group_lent.proofs.Lengths.{read_plain, read_fits, read_turned}
use native.Mathlib.Omega.{arith}
use Rattle.group_lent.proofs.length_of.Goals as goal

pub returns-then-w-lt9223372036854775808 : goal.returns-then-w-lt9223372036854775808
returns-then-w-lt9223372036854775808 c = read_plain c.args.w c.if-w-lt9223372036854775808.true

pub overflow_sub-result-2 : goal.overflow_sub-result-2
overflow_sub-result-2 c = read_fits c.args.w c.if-w-lt9223372036854775808.false (omega (arith, c.ranges.w.fits))

pub returns : goal.returns
returns c = read_turned c.args.w c.if-w-lt9223372036854775808.false (omega (arith, c.ranges.w.fits))
