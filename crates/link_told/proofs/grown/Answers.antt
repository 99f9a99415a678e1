-- No node and one notice; the length is read again from 64 bits. Assumes nothing.
use Prim.Native.Nat.{ℕ}
use mathlib.Core.Path.{ap, ◌∙◌}
use mathlib.Core.List.{[], ◌∷◌}
use lib.Seq.{sets}
use mir.Facts.{to_z-of_z}
use Rattle.outcome_notices.specs.Laid.{circle_in}
use Rattle.link_answers.specs.Forms.{signed_word}
use Rattle.link_told.specs.Answers.{said_over}
use mir.Syntax.{w64}
use Rattle.link_told.proofs.grown.Goals as goal

pub returns : goal.returns
unfolding said_over circle_in
returns c = c.put_one.ensures ∙ ap (λ (w : ℕ). sets c.args.out.now 0 (0 ∷ 1 ∷ 0 ∷ 8 ∷ w ∷ [])) (c.signed_word-w.ensures ∙ ap signed_word (to_z-of_z {w = w64} c.ranges.length))
