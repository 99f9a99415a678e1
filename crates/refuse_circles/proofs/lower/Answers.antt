-- Each way out is one case of the definition. Assumes nothing.
use Prim.Native.Nat.{ℕ}
use mathlib.Core.Path.{sym, ◌∙◌, ap}
use Rattle.refuse_circles.specs.Marks.{lower}
use Rattle.refuse_circles.proofs.Lowest.{lower_none, none_lower, lower_less, lower_more}
use Rattle.refuse_circles.proofs.lower.Goals as goal

pub returns-then-x-eq0 : goal.returns-then-x-eq0
returns-then-x-eq0 c = sym (ap (λ (n : ℕ). lower n c.args.y) c.if-x-eq0.true ∙ none_lower c.args.y)

pub returns-then-y-eq0 : goal.returns-then-y-eq0
returns-then-y-eq0 c = let a = c.args in sym (ap (lower a.x) c.if-y-eq0.true ∙ lower_none a.x)

pub returns-then-y-x : goal.returns-then-y-x
returns-then-y-x c = let a = c.args in sym (lower_less a.x a.y c.if-x-eq0.false c.if-y-eq0.false c.if-y-x.true)

pub returns : goal.returns
returns c = let a = c.args in sym (lower_more a.x a.y c.if-x-eq0.false c.if-y-eq0.false c.if-y-x.false)
