-- A byte is its own number. Assumes nothing.
use native.Mathlib.Omega.{arith}
use Rattle.record_spec.specs.Places.{at}
use borrow.Author.Rules.{rules}
use Rattle.record_numbers.proofs.byte_at.Goals as goal

pub overflow_cast-result : goal.overflow_cast-result
overflow_cast-result c = omega (arith, c.type_inv.s c.args.p)

pub returns : goal.returns
unfolding at
returns c = (omega arith, omega (arith, c.type_inv.s c.args.p))
