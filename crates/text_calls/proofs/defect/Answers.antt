-- The call's answer is the line's. Assumes nothing.
use Rattle.std.specs.Prelude.{Some}
use mathlib.Core.Path.{refl}
use borrow.Author.Rules.{rules}
use Rattle.ledger_spec.specs.Calls.{Defect}
use Rattle.ledger_spec.specs.Operations.{D}
use Rattle.ledger_spec.specs.Lines.{says}
use Rattle.outcomes.proofs.Outcomes.{sound_after}
use Rattle.text_calls.proofs.Turning.{turned}
use Rattle.text_calls.proofs.defect.Goals as goal

pub tell-requires : goal.tell-requires
tell-requires c = sound_after c.requires c.create_defect_node-made.ensures.0

pub returns : goal.returns
unfolding says
returns c =
    let u = c.args.unit in
    let v = c.args.vertex.0 in
    turned c.args.b.now c.requires (Some (D u v)) u (Defect u v) refl (Defect u v) refl _ _ _ c.create_defect_node-made.ensures c.tell.result c.tell.ensures
