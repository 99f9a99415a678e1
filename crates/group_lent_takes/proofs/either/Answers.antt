-- `either` goes by the test of the definition. Assumes nothing.
use borrow.Author.Tests.{eq-eqb, ne_eqb}
use Rattle.group_lent_takes.proofs.either.Goals as goal

pub returns-then-b-eq1 : goal.returns-then-b-eq1
returns-then-b-eq1 c = rw (eq-eqb _ _ c.if-b-eq1.true)

pub returns : goal.returns
returns c = rw (ne_eqb _ _ c.if-b-eq1.false)
