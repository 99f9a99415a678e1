-- `is_held` goes by the tests of the definition. Assumes nothing.
use borrow.Author.Tests.{lt-ltb, le-ltb}
use Rattle.group_lent_stops.proofs.is_held.Goals as goal

pub returns-then-m-p : goal.returns-then-m-p
returns-then-m-p c = rw (le-ltb _ _ c.if-m-p.true)

pub returns : goal.returns
returns c = rw (lt-ltb _ _ c.if-m-p.false)
