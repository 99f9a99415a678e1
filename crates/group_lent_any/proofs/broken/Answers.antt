-- Five zeros are written. Assumes nothing.
use mathlib.Core.Path.{refl, ap, ◌∙◌}
use borrow.Author.Rules.{rules}
use Rattle.group_lent.specs.Forms.{five_words}
use Rattle.group_lent_any.proofs.broken.Goals as goal

pub returns : goal.returns
returns c = (refl, c.put_in.ensures ∙ ap five_words c.no_obstacle.ensures)
