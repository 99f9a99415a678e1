-- The lower of the two lists' numbers. Assumes nothing.
use mathlib.Core.Path.{sym, ◌∙◌, ap₂}
use Rattle.deed_circles.specs.Given.{hands_given, pairs_given}
use Rattle.bench_views.specs.View.{view}
use Rattle.refuse_circles.specs.Marks.{lower}
use Rattle.refuse_circles.proofs.Touching.{both_lists}
use Rattle.refuse_circles.proofs.nodes_number.Goals as goal

pub returns : goal.returns
returns c = let a = c.args in
    c.lower.ensures ∙ ap₂ lower c.list_number-number.ensures c.touching_number.ensures ∙ sym (both_lists (view a.b.now) a.unit (hands_given a.members.now) (pairs_given a.touching.now))
