-- The read below answers; its number and its values as words are handed on. Assumes nothing.
use borrow.Author.Rules.{rules}
use Rattle.dual_ledger.proofs.Handing.{next_by}
use Rattle.dual_ledger.proofs.present.dual_ledger_next_present.Goals as goal

pub returns : goal.returns
returns c = next_by c.next_present-a.ensures c.indexed_word.ensures
