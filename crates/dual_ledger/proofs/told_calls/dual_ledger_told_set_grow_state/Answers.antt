-- The call on sound words answers; a refusal tells nothing, and else the state is told. Assumes nothing.
use mathlib.Core.Path.{refl}
use Rattle.ledger_spec.specs.Named.{handle_named, state_named}
use Rattle.ledger_laws.proofs.Answered.{node_of}
use Rattle.bench_views.specs.View.{view}
use Rattle.outcome_notices.proofs.Tells.{tells_state}
use Rattle.dual_ledger.proofs.Settling.{same_state}
use Rattle.dual_ledger.proofs.Telling.{told_stops, told_goes, told_as}
use borrow.Author.Rules.{rules}
use Rattle.dual_ledger.proofs.told_calls.dual_ledger_told_set_grow_state.Goals as goal

pub returns-then-made-ne0 : goal.returns-then-made-ne0
returns-then-made-ne0 c =
    let h = c.hand-h in
    let g = c.state_given-to in
    told_as _ (same_state _ h.ensures c.ranges.state g.ensures) (told_stops c.set_grow_state-made.ensures.0 c.if-made-ne0.true _ c.refused.ensures)

pub returns : goal.returns
unfolding node_of
returns c =
    let h = c.hand-h in
    let g = c.state_given-to in
    told_as _ (same_state _ h.ensures c.ranges.state g.ensures)
    (told_goes c.set_grow_state-made.ensures.0 c.if-made-ne0.false refl (tells_state (view c.args.bench.now) c.args.unit (handle_named h.result) (state_named g.result)) _ c.state.ensures)
