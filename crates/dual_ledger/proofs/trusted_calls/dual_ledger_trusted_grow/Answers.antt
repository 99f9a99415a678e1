-- The call below answers; its number and the words are handed on. Assumes nothing.
use borrow.Author.Rules.{rules}
use Rattle.outcomes.proofs.Outcomes.{named_as}
use Rattle.dual_ledger.proofs.Settling.{same_length}
use Rattle.dual_ledger.proofs.trusted_calls.dual_ledger_trusted_grow.Goals as goal

pub returns : goal.returns
returns c = named_as (same_length _ c.ranges.length) c.grow-made.ensures.0
