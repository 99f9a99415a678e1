-- The sound test decides. Assumes nothing.
use borrow.Author.Rules.{rules}
use mathlib.Core.Path.{sym, ap, ◌∙◌}
use Rattle.link_answers.specs.Forms.{flag_word}
use Rattle.dual_ledger.proofs.obstacles.dual_ledger_group_is_sound.Goals as goal

pub returns-then-is_group : goal.returns-then-is_group
returns-then-is_group c = ap flag_word (sym c.if-is_group.true ∙ c.is_group.ensures.is)

pub returns : goal.returns
returns c = ap flag_word (sym c.if-is_group.false ∙ c.is_group.ensures.is)
