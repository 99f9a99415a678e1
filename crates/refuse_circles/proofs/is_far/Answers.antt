-- An interface without a parent is the top of its own tree; any other's top is found by climbing. Assumes nothing.
use Prim.Native.Nat.{ℕ}
use mathlib.Core.Path.{ap}
use mathlib.Core.Bool.{not}
use lib.Dec.{eqb}
use Rattle.bench_views.specs.View.{view}
use Rattle.refuse_circles.proofs.Marking.{near_own}
use Rattle.refuse_circles.proofs.is_far.Goals as goal

pub returns-then-home-unit : goal.returns-then-home-unit
returns-then-home-unit c = near_own (view c.args.b.now) c.args.unit c.requires.2 c.args.home c.if-home-unit.true

pub returns : goal.returns
returns c = ap (λ (t : ℕ). not (eqb t c.args.unit)) c.top_of.ensures.0
