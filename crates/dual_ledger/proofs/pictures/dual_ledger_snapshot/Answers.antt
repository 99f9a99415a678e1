-- The picture below answers; its number and its length are handed on. Assumes nothing.
use borrow.Author.Rules.{rules}
use Rattle.dual_ledger.proofs.pictures.dual_ledger_snapshot.Goals as goal

pub returns : goal.returns
returns c = c.snapshot-a.ensures
