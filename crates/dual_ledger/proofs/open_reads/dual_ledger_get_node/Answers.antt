-- The read below answers; its number and its values as words are handed on. Assumes nothing.
use borrow.Author.Rules.{rules}
use Rattle.dual_ledger.proofs.Handing.{indexed_by}
use Rattle.dual_ledger.proofs.open_reads.dual_ledger_get_node.Goals as goal

pub returns : goal.returns
returns c = indexed_by c.get_node-a.ensures c.indexed_word.ensures
