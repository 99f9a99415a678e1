-- Each field is its word. Assumes nothing.
use Rattle.group_lent.specs.Forms.{five_at}
use borrow.Author.Rules.{rules}
use Rattle.group_lent.proofs.five_of.Goals as goal

pub returns : goal.returns
unfolding five_at
returns c = search rules
