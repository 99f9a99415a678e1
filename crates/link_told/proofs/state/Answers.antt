-- A node and its notice, whose kind is the state's. Assumes nothing.
use Prim.Native.Nat.{ℕ}
use mathlib.Core.Path.{ap₂, ◌∙◌}
use mathlib.Core.List.{[], ◌∷◌}
use lib.Seq.{sets}
use Rattle.outcome_notices.specs.Laid.{circle_in}
use Rattle.link_told.specs.Answers.{said_over}
use Rattle.link_told.proofs.state.Goals as goal

pub returns : goal.returns
unfolding said_over circle_in
returns c = c.put_one.ensures ∙ ap₂ (λ (w k : ℕ). sets c.args.out.now 0 (w ∷ 1 ∷ 0 ∷ k ∷ w ∷ [])) c.node_word-w.ensures c.state_kind-kind.ensures
