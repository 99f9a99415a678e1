-- The call's answer is the line's. Assumes nothing.
use Rattle.std.specs.Prelude.{Some}
use mathlib.Core.Path.{refl}
use borrow.Author.Rules.{rules}
use Rattle.ledger_spec.specs.Calls.{Clear}
use Rattle.ledger_spec.specs.Operations.{C}
use Rattle.ledger_spec.specs.Lines.{says}
use Rattle.outcomes.proofs.Outcomes.{sound_after}
use Rattle.text_calls.proofs.Turning.{turned}
use Rattle.text_calls.proofs.clear.Goals as goal

pub tell-requires : goal.tell-requires
tell-requires c = sound_after c.requires c.clear-made.ensures.0

pub returns : goal.returns
unfolding says
returns c =
    let u = c.args.unit in
    turned c.args.b.now c.requires (Some (C u)) u (Clear u) refl (Clear u) refl _ _ _ c.clear-made.ensures c.tell.result c.tell.ensures
