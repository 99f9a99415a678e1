-- The call's answer is the line's. Assumes nothing.
use Rattle.std.specs.Prelude.{Some}
use mathlib.Core.Path.{refl, ap}
use borrow.Author.Rules.{rules}
use lib.IntN.{ℤ}
use mir.Syntax.{w64}
use mir.Val.{to_z, of_z}
use mir.Facts.{to_z-of_z}
use Rattle.ledger_spec.specs.Calls.{Grow, perform}
use Rattle.ledger_spec.specs.Operations.{G}
use Rattle.ledger_spec.specs.Lines.{says}
use Rattle.bench_views.specs.View.{view}
use Rattle.outcomes.proofs.Outcomes.{sound_after}
use Rattle.text_calls.proofs.Turning.{turned}
use Rattle.text_calls.proofs.grow.Goals as goal

pub tell-requires : goal.tell-requires
tell-requires c = sound_after c.requires c.grow-made.ensures.0

pub returns : goal.returns
unfolding says
returns c =
    let u = c.args.unit in
    let l = c.args.length in
    turned c.args.b.now c.requires (Some (G u l)) u (Grow u l) refl (Grow u (to_z w64 (of_z w64 l))) (ap (λ (z : ℤ). perform (view c.args.b.now) (Grow u z)) (to_z-of_z {w = w64} c.ranges.length)) _ _ _ c.grow-made.ensures c.tell.result c.tell.ensures
