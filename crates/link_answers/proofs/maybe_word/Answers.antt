-- By the case of what is written. Assumes nothing.
use Rattle.link_answers.proofs.maybe_word.Goals as goal

pub returns-in-Some : goal.returns-in-Some
returns-in-Some c = cc
