-- The handle that the word gives, as a word. Assumes nothing.
use mathlib.Core.Path.{ap, ◌∙◌}
use Rattle.link_answers.specs.Forms.{node_word}
use Rattle.link_told.proofs.member_word.Goals as goal

pub returns : goal.returns
returns c = c.node_word.ensures ∙ ap node_word c.hand-h.ensures
