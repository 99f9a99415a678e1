-- A node and its notice. Assumes nothing.
use Prim.Native.Nat.{ℕ}
use mathlib.Core.Path.{ap, ◌∙◌}
use mathlib.Core.List.{[], ◌∷◌}
use lib.Seq.{sets}
use Rattle.outcome_notices.specs.Laid.{circle_in}
use Rattle.link_told.specs.Answers.{said_over}
use Rattle.link_told.proofs.defect.Goals as goal

pub returns : goal.returns
unfolding said_over circle_in
returns c = c.put_one.ensures ∙ ap (λ (w : ℕ). sets c.args.out.now 0 (w ∷ 1 ∷ 0 ∷ 1 ∷ w ∷ [])) c.node_word-w.ensures
