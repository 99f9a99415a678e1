-- The top's words are written. Assumes nothing.
use borrow.Author.Rules.{rules}
use Rattle.group_lent_calls.proofs.Calling.{pop_given}
use Rattle.group_lent_calls.proofs.pop.Goals as goal

pub returns : goal.returns
returns c = pop_given _ _ _ _ c.pop-top.ensures c.put_in.ensures
