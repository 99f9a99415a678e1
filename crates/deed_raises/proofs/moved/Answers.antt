-- By cases of the state. Assumes nothing.
use native.Mathlib.Omega.{arith}
use Rattle.deed_raises.proofs.moved.Goals as goal

pub overflow_add-result : goal.overflow_add-result
overflow_add-result c = omega (arith, c.requires.up (cc))

pub overflow_sub-result : goal.overflow_sub-result
overflow_sub-result c = omega (arith, c.requires.down (cc))

pub returns-in-Grow : goal.returns-in-Grow
returns-in-Grow c = cc

pub returns-in-Shrink : goal.returns-in-Shrink
returns-in-Shrink c = cc
