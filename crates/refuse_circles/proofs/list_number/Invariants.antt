-- The number so far with that of the words left is the whole list's. Assumes nothing.
use mathlib.Core.Path.{◌≡◌}
use Rattle.deed_circles.specs.Given.{hands_given}
use Rattle.bench_views.specs.View.{view}
use Rattle.refuse_circles.specs.Marks.{list_mark, lower}
use Rattle.refuse_circles.proofs.Lowest.{rest}
use Rattle.refuse_circles.proofs.list_number.Given as goal

abbrev pub invariant-loop-w : goal.invariant-loop-w
invariant-loop-w l = list_mark (view l.b) l.unit (hands_given l.ws) ≡ lower l.number (rest (view l.b) l.unit l.ws l.w-index)
