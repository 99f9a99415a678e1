-- The handle that a word gives, as the plain ledger has it. Assumes nothing.
use mathlib.Core.Path.{ap, ◌∙◌}
use Rattle.ledger_spec.specs.Named.{handle_named}
use Rattle.bench_views.proofs.Givens.{hand_given_lem}
use Rattle.link_answers.proofs.hand.Goals as goal

pub returns : goal.returns
returns c = ap handle_named c.hand_of.ensures ∙ hand_given_lem _
