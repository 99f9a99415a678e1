-- By the tests of the definition. Assumes nothing.
use borrow.Author.Tests.{eq-eqb, ne_eqb}
use Rattle.group_lent_extends.specs.Extends.{length_after}
use Rattle.group_lent_extends.proofs.length_after.Goals as goal

pub returns-then-b-eq-LARGEST : goal.returns-then-b-eq-LARGEST
unfolding length_after
returns-then-b-eq-LARGEST c = rw (eq-eqb _ _ c.if-b-eq-LARGEST.true)

pub returns : goal.returns
unfolding length_after
returns c = rw (ne_eqb _ _ c.if-b-eq-LARGEST.false) c.least.ensures
