-- The call's answer is the line's. Assumes nothing.
use Rattle.std.specs.Prelude.{Some}
use mathlib.Core.Path.{refl}
use borrow.Author.Rules.{rules}
use Rattle.ledger_spec.specs.Calls.{Fuse}
use Rattle.ledger_spec.specs.Operations.{F}
use Rattle.ledger_spec.specs.Lines.{says}
use Rattle.outcomes.proofs.Outcomes.{sound_after}
use Rattle.text_calls.proofs.Turning.{turned}
use Rattle.text_calls.proofs.fuse.Goals as goal

pub tell-requires : goal.tell-requires
tell-requires c = sound_after c.requires c.fuse-made.ensures.0

pub returns : goal.returns
unfolding says
returns c =
    let d = Fuse c.args.parent c.args.left c.args.right in
    turned c.args.b.now c.requires (Some (F c.args.parent c.args.left c.args.right)) c.args.parent d refl d refl _ _ _ c.fuse-made.ensures c.tell.result c.tell.ensures
