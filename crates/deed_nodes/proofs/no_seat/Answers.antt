-- The handles are nobody's, and the rest is as the definition has it. Assumes nothing.
use borrow.Author.Rules.{rules}
use Rattle.deed_nodes.proofs.no_seat.Goals as goal

pub returns : goal.returns
returns c = rw c.nobody-nobody.ensures
