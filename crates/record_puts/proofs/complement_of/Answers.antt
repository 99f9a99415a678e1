-- Below 0, the complement of its size less one. Assumes nothing.
use native.Mathlib.Omega.{arith}
use Rattle.record_puts.proofs.Complements.{turned, plain}
use Rattle.record_puts.proofs.complement_of.Goals as goal

pub overflow_sub-result : goal.overflow_sub-result
overflow_sub-result c = (turned c.args.z c.ranges.z c.if-z-lt0.true).fits

pub overflow_cast-result : goal.overflow_cast-result
overflow_cast-result c = (turned c.args.z c.ranges.z c.if-z-lt0.true).whole

pub overflow_sub-result-then-z-lt0 : goal.overflow_sub-result-then-z-lt0
overflow_sub-result-then-z-lt0 c = let t = turned c.args.z c.ranges.z c.if-z-lt0.true in omega (arith, t.whole.1)

pub returns-then-z-lt0 : goal.returns-then-z-lt0
returns-then-z-lt0 c = (turned c.args.z c.ranges.z c.if-z-lt0.true).value

pub overflow_cast-result-2 : goal.overflow_cast-result-2
overflow_cast-result-2 c = (plain c.args.z c.ranges.z c.if-z-lt0.false).whole

pub returns : goal.returns
returns c = (plain c.args.z c.ranges.z c.if-z-lt0.false).value
