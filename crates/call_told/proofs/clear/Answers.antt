-- No node and no notices, accepted or refused. Assumes nothing.
use borrow.Author.Rules.{rules}
use mathlib.Core.Path.{refl}
use Rattle.ledger_spec.specs.Notices.{tells}
use Rattle.ledger_laws.proofs.Answered.{node_of}
use Rattle.call_told.proofs.Telling.{bare}
use Rattle.call_told.proofs.clear.Goals as goal

pub returns : goal.returns
unfolding tells node_of
returns c = bare c.clear-made.ensures.0 refl refl c.refused.ensures
