-- A digit is counted for each tenth that is taken (`Counting`). Assumes nothing.
use Rattle.record_measures.proofs.Counts.{Counting, starting, turning, ending}
use native.Mathlib.Omega.{arith}
use Rattle.record_measures.proofs.digits.digits.Goals as goal

pub loop-m-init : goal.loop-m-init
loop-m-init c = starting c.args.n (omega arith)

pub overflow_add-k : goal.overflow_add-k
overflow_add-k c = omega (arith, c.loop-m.invariant.whole, c.loop-m.invariant.few)

pub loop-m-smaller : goal.loop-m-smaller
loop-m-smaller c = omega arith

pub loop-m-preserved : goal.loop-m-preserved
loop-m-preserved c = turning c.args.n c.loop-m.k c.loop-m.m c.loop-m.invariant c.loop-m-test.true

pub returns : goal.returns
returns c = ending c.args.n c.loop-m.k c.loop-m.m c.loop-m.invariant c.loop-m-test.false
