-- The count goes up where the stop comes in, and down where it becomes an entry. Assumes nothing.
use native.Mathlib.Omega.{arith}
use borrow.Author.Rules.{rules}
use borrow.Author.Tests.{eq-eqb, ne_eqb}
use Rattle.group_lent_room.proofs.stopped_by.Goals as goal

pub returns-then-d-eq1 : goal.returns-then-d-eq1
returns-then-d-eq1 c = rw (eq-eqb _ _ c.if-d-eq1.true)

pub returns-then-n-eq0 : goal.returns-then-n-eq0
returns-then-n-eq0 c = rw (ne_eqb _ _ c.if-d-eq1.false, eq-eqb _ _ c.if-d-eq2.true) (omega (arith, c.if-n-eq0.true))

pub returns-then-d-eq2 : goal.returns-then-d-eq2
returns-then-d-eq2 c = rw (ne_eqb _ _ c.if-d-eq1.false, eq-eqb _ _ c.if-d-eq2.true)

pub returns : goal.returns
returns c = rw (ne_eqb _ _ c.if-d-eq1.false, ne_eqb _ _ c.if-d-eq2.false)
