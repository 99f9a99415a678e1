-- The read below answers; its number and its value as a word are handed on. Assumes nothing.
use borrow.Author.Rules.{rules}
use Rattle.dual_ledger.proofs.Handing.{worded_by}
use Rattle.link_answers.specs.Forms.{flag_word}
use Rattle.dual_ledger.proofs.marks.dual_ledger_is_filling.Goals as goal

pub returns : goal.returns
returns c = worded_by flag_word c.is_filling-a.ensures c.flag_word.ensures
