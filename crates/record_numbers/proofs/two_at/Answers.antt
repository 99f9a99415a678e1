-- The low half, and the high half after it. Assumes nothing.
use Rattle.record_numbers.proofs.Halves.{two_of}
use native.Mathlib.Omega.{arith}
use borrow.Author.Rules.{rules}
use Rattle.record_numbers.proofs.two_at.Goals as goal

pub returns : goal.returns
returns c = (two_of c.args.s.now c.args.p c.byte_at-low.result c.byte_at-high.result c.byte_at-low.ensures.0 c.byte_at-high.ensures.0, omega arith)
