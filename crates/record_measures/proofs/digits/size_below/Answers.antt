-- The complement, and one more. Assumes nothing.
use Rattle.record_measures.proofs.Counts.{below}
use native.Mathlib.Omega.{arith}
use borrow.Author.Rules.{rules}
use Rattle.record_measures.proofs.digits.size_below.Goals as goal

pub returns : goal.returns
returns c = below c.args.n _ c.requires (omega arith)
