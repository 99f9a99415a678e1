-- The low half, and the high half after it. Assumes nothing.
use Rattle.record_numbers.proofs.Halves.{four_of}
use native.Mathlib.Omega.{arith}
use borrow.Author.Rules.{rules}
use Rattle.record_numbers.proofs.four_at.Goals as goal

pub returns : goal.returns
returns c = (four_of c.args.s.now c.args.p c.two_at-low.result c.two_at-high.result c.two_at-low.ensures.0 c.two_at-high.ensures.0, omega arith)
