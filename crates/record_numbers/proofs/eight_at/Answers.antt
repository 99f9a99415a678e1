-- The low half, and the high half after it. Assumes nothing.
use Rattle.record_numbers.proofs.Halves.{eight_of}
use native.Mathlib.Omega.{arith}
use borrow.Author.Rules.{rules}
use Rattle.record_numbers.proofs.eight_at.Goals as goal

pub returns : goal.returns
returns c = (eight_of c.args.s.now c.args.p c.four_at-low.result c.four_at-high.result c.four_at-low.ensures.0 c.four_at-high.ensures.0, omega arith)
