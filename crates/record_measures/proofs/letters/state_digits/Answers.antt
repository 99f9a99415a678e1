-- The match goes as the definition does. Assumes nothing.
use Rattle.record_measures.proofs.Counts.{no_state}
use native.Mathlib.Omega.{arith}
use Rattle.ledger_spec.specs.Decimals.{digits, decimal, signed}
use Rattle.record_spec.specs.Reader.{state_in}
use Rattle.record_measures.specs.Measures.{state_digits}
use Rattle.record_measures.proofs.letters.state_digits.Goals as goal

pub returns-in-0 : goal.returns-in-0
unfolding state_digits state_in signed decimal digits
returns-in-0 c = (rw c.in-0.is, omega arith)

pub returns-in-1 : goal.returns-in-1
unfolding state_digits state_in signed decimal digits
returns-in-1 c = (rw c.in-1.is, omega arith)

pub returns-in-255 : goal.returns-in-255
unfolding state_digits state_in signed decimal digits
returns-in-255 c = (rw c.in-255.is, omega arith)

pub returns-in_default : goal.returns-in_default
returns-in_default c = let m = c.in_default.in_default-own.rest in (no_state c.args.n m.0.0.1 m.0.1 m.1, omega arith)
