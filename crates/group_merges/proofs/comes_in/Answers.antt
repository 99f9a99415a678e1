-- `comes_in` asks for room. Assumes nothing.
use borrow.Author.Tests.{le-leb, lt-leb}
use Rattle.group_merges.specs.Turns.{comes_in}
use Rattle.group_merges.proofs.comes_in.Goals as goal

pub returns-then-stops-ge-MOST : goal.returns-then-stops-ge-MOST
unfolding comes_in
returns-then-stops-ge-MOST c = rw (le-leb _ _ c.if-stops-ge-MOST.true)

pub returns : goal.returns
unfolding comes_in
returns c = rw (lt-leb _ _ c.if-stops-ge-MOST.false)
