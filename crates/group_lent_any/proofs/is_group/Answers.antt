-- The test, and what it says of all the words. Assumes nothing.
use mathlib.Core.Path.{sym, ◌∙◌}
use borrow.Author.Rules.{rules}
use Rattle.group_lent_sound.proofs.Sound.{sound_of}
use Rattle.group_lent_any.proofs.is_group.Goals as goal

pub returns : goal.returns
returns c = record { is = c.is_sound.ensures; says = λ t. sound_of c.args.w.now c.all_words.ensures (sym c.is_sound.ensures ∙ t) }
