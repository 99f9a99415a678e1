-- The handle that a word gives, packed from the plain ledger's. Assumes nothing.
use mathlib.Core.Path.{ap, ◌∙◌}
use Rattle.bench_views.proofs.Givens.{hand_given_lem}
use Rattle.outcome_notices.specs.Laid.{packed}
use Rattle.outcome_notices.proofs.hand.Goals as goal

pub returns : goal.returns
returns c = c.hand_of.ensures ∙ ap packed (hand_given_lem _)
