-- The top's words are written. Assumes nothing.
use borrow.Author.Rules.{rules}
use Rattle.group_lent_calls.proofs.Calling.{spared_given}
use Rattle.group_lent_calls.proofs.pop_sparing_stops.Goals as goal

pub returns : goal.returns
returns c = spared_given _ _ _ _ c.pop_sparing_stops-top.ensures c.put_in.ensures
