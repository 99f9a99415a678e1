-- Three words, 0 each. Assumes nothing.
use Rattle.outcome_notices.specs.Laid.{circle_in}
use Rattle.link_told.specs.Answers.{said_over}
use borrow.Author.Rules.{rules}
use Rattle.link_told.proofs.refused.Goals as goal

pub returns : goal.returns
unfolding said_over circle_in
returns c = search rules
