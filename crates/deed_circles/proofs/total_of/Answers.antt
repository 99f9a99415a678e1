-- By whether the interface is the one whose T is known. Assumes nothing.
use native.Mathlib.Omega.{arith}
use Rattle.deed_circles.proofs.Bodies.{total_here}
use Rattle.deed_circles.proofs.total_of.Goals as goal

pub returns-then-home-unit : goal.returns-then-home-unit
returns-then-home-unit c = let p = c.requires in total_here c.args.b.now p.0 p.1 p.2 (omega arith)

pub returns : goal.returns
returns c = (c.climb-up.ensures.total, c.climb-up.ensures.small)
