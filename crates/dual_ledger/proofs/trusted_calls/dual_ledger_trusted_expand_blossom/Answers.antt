-- The call below answers; its number and the words are handed on. Assumes nothing.
use borrow.Author.Rules.{rules}
use mathlib.Core.Path.{ap}
use Rattle.ledger_spec.specs.Calls.{Expand}
use Rattle.outcomes.proofs.Outcomes.{named_as}
use Rattle.dual_ledger.proofs.trusted_calls.dual_ledger_trusted_expand_blossom.Goals as goal

pub returns : goal.returns
returns c = named_as (ap (Expand c.args.unit) c.hand-h.ensures) c.expand_blossom-made.ensures.0
