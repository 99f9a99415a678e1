-- The serial's node is the ledger's, so the call's answer is the line's. Assumes nothing.
use Rattle.std.specs.Prelude.{Some}
use mathlib.Core.Path.{refl, ap}
use borrow.Author.Rules.{rules}
use Rattle.ledger_spec.specs.Bench.{Handle}
use Rattle.ledger_spec.specs.Calls.{Expand, perform}
use Rattle.ledger_spec.specs.Operations.{E}
use Rattle.ledger_spec.specs.Lines.{named, says}
use Rattle.ledger_spec.specs.Named.{handle_named}
use Rattle.bench_views.specs.View.{view}
use Rattle.bench_views.proofs.Fits.{fit_of}
use Rattle.outcomes.proofs.Outcomes.{sound_after}
use Rattle.text_calls.proofs.Turning.{turned}
use Rattle.text_calls.proofs.expand.Goals as goal

pub named-node-requires : goal.named-node-requires
named-node-requires c = fit_of c.args.b.now c.requires

pub tell-requires : goal.tell-requires
tell-requires c = sound_after c.requires c.expand_blossom-made.ensures.0

pub returns : goal.returns
unfolding says
returns c =
    let u = c.args.unit in
    let k = c.args.serial.0 in
    let b = c.args.b.now in
    let h = c.named-node.result in
    turned b c.requires (Some (E u k)) u (Expand u (named (view b) k)) refl (Expand u (handle_named h)) (ap (λ (x : Handle). perform (view b) (Expand u x)) c.named-node.ensures) _ _ _
    c.expand_blossom-made.ensures c.tell.result c.tell.ensures
