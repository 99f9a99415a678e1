-- A length below 0 is a minus and its size. Assumes nothing.
use native.Mathlib.Omega.{arith}
use mathlib.Core.Path.{ap}
use lib.ListN.{length}
use Rattle.record_measures.proofs.Counts.{above}
use borrow.Author.Rules.{rules}
use Rattle.record_measures.proofs.digits.length_digits.Goals as goal

pub returns-then-n-lt9223372036854775808 : goal.returns-then-n-lt9223372036854775808
returns-then-n-lt9223372036854775808 c = (omega (arith, ap length (above c.args.n c.if-n-lt9223372036854775808.true), c.digits.ensures.0), omega arith)

pub returns : goal.returns
returns c = (omega (arith, ap length c.size_below-m.ensures, c.digits-2.ensures.0), omega arith)
