-- What a call answers and what it leaves of the words that it is lent, by the plain ledger's answer: on sound words, and on any words with the verdict on
-- them. Assumes nothing.
use Rattle.std.specs.Prelude.{ℕ, ◌≡◌, Bool, true, false, List}
use Rattle.ledger_spec.specs.Calls.{Call}
use Rattle.ledger_spec.specs.Answers.{Answer as Plain, broken, answer}
use Rattle.bench_views.specs.View.{view}
use Rattle.bench_views.specs.Fit.{SoundWords}

-- the plain ledger's answer where the words hold a sound bench, by the verdict s on them, else BROKEN
abbrev pub answer_on : Bool → List ℕ → Call → Plain
answer_on true b c = answer (view b) c
answer_on false b c = broken (view b)

-- call c on words b of verdict s answers the number n and leaves the words b': accepted, they hold a sound bench, the ledger's; refused, every word is as it was.
-- It takes the verdict, so that a call on sound words (verdict true) and the same call on any words have one form
pub record Outcome (s : Bool) (b : List ℕ) (c : Call) (n : ℕ) (b' : List ℕ) : Type 0 where
  pub number : n ≡ (answer_on s b c).number
  pub words : n ≡ 0 → SoundWords b'
  pub seen : n ≡ 0 → view b' ≡ (answer_on s b c).bench
  pub refused : (n ≡ 0 → ⊥) → b' ≡ b
