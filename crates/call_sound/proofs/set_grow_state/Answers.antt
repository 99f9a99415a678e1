-- The tests decide; the work is set state's. Assumes nothing.
use borrow.Author.Rules.{rules}
use mathlib.Core.Path.{refl}
use Rattle.ledger_spec.specs.Calls.{SetState}
use Rattle.ledger_spec.specs.Tests.{first}
use Rattle.ledger_laws.proofs.Answered.{tests_of, deed_of, node_of}
use Rattle.bench_views.specs.View.{view}
use Rattle.call_sound.proofs.Settling.{stops, fits, goes}
use Rattle.ledger_spec.specs.Refuse.{state_tests}
use Rattle.ledger_spec.specs.Named.{handle_named, state_named}
use Rattle.call_sound.proofs.set_grow_state.Goals as goal

pub returns-then-number-ne0 : goal.returns-then-number-ne0
unfolding tests_of
returns-then-number-ne0 c = stops c.args.b.now c.requires (SetState c.args.unit (handle_named c.args.node) (state_named c.args.state)) c.state_number-number.result c.state_number-number.ensures _ c.if-number-ne0.true refl c.refused.result c.refused.ensures

pub set_state-requires : goal.set_state-requires
set_state-requires c = fits c.args.b.now c.requires (first (state_tests (view c.args.b.now) c.args.unit (handle_named c.args.node))) c.state_number-number.result c.state_number-number.ensures c.if-number-ne0.false

pub returns : goal.returns
unfolding tests_of deed_of node_of
returns c = goes c.args.b.now c.requires (SetState c.args.unit (handle_named c.args.node) (state_named c.args.state)) c.state_number-number.result c.state_number-number.ensures _ c.if-number-ne0.false c.set_state.ensures _ refl
