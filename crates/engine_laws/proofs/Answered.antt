-- THEOREM. Every call answers the same in either engine, on any bench, sound or not, and leaves the same bench in the engine; no call changes the engine.
-- Assumes nothing.
use mathlib.Core.Path.{◌≡◌, refl, ap, ◌∙◌}
use mathlib.Core.Bool.{Bool, true, false}
use Rattle.ledger_spec.specs.Bench.{Bench}
use Rattle.ledger_spec.specs.Calls.{Call, perform}
use Rattle.ledger_spec.specs.Notices.{tells}
use Rattle.ledger_spec.specs.Sound.{sound}
use Rattle.ledger_spec.specs.Answers.{Answer, whole, broken, answer}
use Rattle.engine_laws.specs.Engines.{in_engine, reply_in, answer_in}
use Rattle.engine_laws.proofs.Calls.{perform_engine, tells_engine}
use Rattle.engine_laws.proofs.Sound.{sound_engine}

module _ (m : Bool) (b : Bench) (c : Call) where
  pub answer_engine : answer (in_engine m b) c ≡ answer_in m (answer b c)
  unfolding answer whole broken
  answer_engine = (λ i. pick (sound_engine m b i) (whole (perform_engine m b c i) (tells_engine m b c i))) ∙ picked (sound b)
    where
      pick : Bool → Answer → Answer
      pick s a = elim s [ true ↦ a | false ↦ broken (in_engine m b) ]

      picked : (s : Bool) → pick s (whole (reply_in m (perform b c)) (tells b c)) ≡ answer_in m (elim s [ true ↦ whole (perform b c) (tells b c) | false ↦ broken b ])
      picked true = refl
      picked false = refl

pub engine_kept : (b : Bench) (c : Call) → (answer b c).bench.plain ≡ b.plain
engine_kept b c = ap (λ (a : Answer). a.bench.plain) (answer_engine b.plain b c)
