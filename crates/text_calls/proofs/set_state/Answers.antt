-- The serial's node is the ledger's, so the call's answer is the line's. Assumes nothing.
use Rattle.std.specs.Prelude.{Some}
use mathlib.Core.Path.{refl, ap}
use borrow.Author.Rules.{rules}
use Rattle.ledger_spec.specs.Bench.{Handle}
use Rattle.ledger_spec.specs.Calls.{SetState, perform}
use Rattle.ledger_spec.specs.Operations.{S}
use Rattle.ledger_spec.specs.Lines.{named, says}
use Rattle.ledger_spec.specs.Named.{handle_named, state_named}
use Rattle.bench_views.specs.View.{view}
use Rattle.bench_views.proofs.Fits.{fit_of}
use Rattle.outcomes.proofs.Outcomes.{sound_after}
use Rattle.text_calls.proofs.Turning.{turned}
use Rattle.text_calls.proofs.set_state.Goals as goal

pub named-node-requires : goal.named-node-requires
named-node-requires c = fit_of c.args.b.now c.requires

pub tell-requires : goal.tell-requires
tell-requires c = sound_after c.requires c.set_grow_state-made.ensures.0

pub returns : goal.returns
unfolding says
returns c =
    let u = c.args.unit in
    let k = c.args.serial.0 in
    let g = state_named c.args.state in
    let b = c.args.b.now in
    let h = c.named-node.result in
    turned b c.requires (Some (S u k g)) u (SetState u (named (view b) k) g) refl (SetState u (handle_named h) g) (ap (λ (x : Handle). perform (view b) (SetState u x g)) c.named-node.ensures) _ _ _
    c.set_grow_state-made.ensures c.tell.result c.tell.ensures
