-- A refusal tells nothing; else the state is told. Assumes nothing.
use borrow.Author.Rules.{rules}
use mathlib.Core.Path.{refl}
use Rattle.ledger_spec.specs.Notices.{tells}
use Rattle.call_told.proofs.Telling.{stops, goes}
use Rattle.call_told.proofs.set_grow_state.Goals as goal

pub returns-then-made-ne0 : goal.returns-then-made-ne0
returns-then-made-ne0 c = stops c.set_grow_state-made.ensures.0 c.if-made-ne0.true c.refused.ensures

pub returns : goal.returns
unfolding tells
returns c = let m = c.set_grow_state-made in goes m.ensures.0 c.if-made-ne0.false m.ensures.1 refl c.state-notices.ensures
