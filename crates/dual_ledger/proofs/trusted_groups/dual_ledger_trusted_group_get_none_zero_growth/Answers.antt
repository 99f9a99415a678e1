-- The read below answers; its number and its value as a word are handed on. Assumes nothing.
use borrow.Author.Rules.{rules}
use Rattle.dual_ledger.proofs.Handing.{length_by}
use Rattle.dual_ledger.proofs.trusted_groups.dual_ledger_trusted_group_get_none_zero_growth.Goals as goal

pub returns : goal.returns
returns c = length_by c.get_none_zero_growth-a.ensures c.asked_word.ensures c.length_word.ensures
