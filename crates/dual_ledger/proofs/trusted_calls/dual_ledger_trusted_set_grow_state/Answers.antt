-- The call below answers; its number and the words are handed on. Assumes nothing.
use borrow.Author.Rules.{rules}
use Rattle.outcomes.proofs.Outcomes.{named_as}
use Rattle.dual_ledger.proofs.Settling.{same_state}
use Rattle.dual_ledger.proofs.trusted_calls.dual_ledger_trusted_set_grow_state.Goals as goal

pub returns : goal.returns
returns c = named_as (same_state _ c.hand-h.ensures c.ranges.state c.state_given-to.ensures) c.set_grow_state-made.ensures.0
