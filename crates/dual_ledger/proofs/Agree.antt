-- The three forms of a call are one on sound words: what meets the public contract meets the one with notices, and what meets that meets the one without,
-- its node being the answer's first word. Assumes nothing.
use Prim.Native.Nat.{ℕ, ◌<◌}
use mathlib.Core.Path.{◌≡◌, ap, ◌∙◌}
use mathlib.Core.List.{List}
use lib.ListN.{length, get_or}
use Rattle.ledger_spec.specs.Answers.{answer}
use Rattle.ledger_spec.specs.Calls.{Call}
use Rattle.bench_views.specs.View.{view}
use Rattle.bench_views.specs.Fit.{SoundWords}
use Rattle.sound_bench.proofs.Theorem.{sound_holds}
use Rattle.outcomes.proofs.Outcomes.{judged_with}
use Rattle.link_told.specs.Answers.{answer_over}
use Rattle.link_told.proofs.Back.{said_first}
use Rattle.dual_ledger.specs.Linked.{Settled, node_of, ToldBy, CalledBy}

module _ {b : List ℕ} {c : Call} {n : ℕ} {b' : List ℕ} (ws : List ℕ) {ws' : List ℕ} where
  pub called_told : SoundWords b → CalledBy b c n ws ws' b' → ToldBy b c n ws ws' b'
  called_told W C = judged_with (answer_over ws) (sound_holds b W) C

  pub told_settled : ToldBy b c n ws ws' b' → Settled b c n b'
  told_settled T = T.0

  pub told_node : 0 < length ws → ToldBy b c n ws ws' b' → get_or ws' 0 0 ≡ node_of b c
  told_node l T = ap (λ (v : List ℕ). get_or v 0 0) T.1 ∙ said_first ws l (answer (view b) c)
