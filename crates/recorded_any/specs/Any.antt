-- A growth over a recording on any words: what recorded_sound has where they hold a sound bench, else BROKEN, with nothing changed. Assumes nothing.
use Rattle.std.specs.Prelude.{ℕ, ◌≡◌, List, ℤ}
use Rattle.ledger_spec.specs.Numbers.{BROKEN}
use Rattle.bench_words.specs.Codec.{pick}
use Rattle.sound_bench.specs.Sound.{sound_words}
use Rattle.recorded_steps.specs.declared.Passed.{Passed}
use Rattle.recorded_sound.specs.Answers.{RecordedAs}

pub record NoBench (b out : List ℕ) (r : Passed) (b' out' : List ℕ) : Type 0 where
  pub is : r ≡ record { number = BROKEN; taken = 0 }
  pub words : b' ≡ b
  pub slice : out' ≡ out

abbrev pub RecordedAny : List ℕ → ℕ → ℤ → List ℕ → List ℕ → Passed → List ℕ → List ℕ → Type 0
RecordedAny b u l ws out r b' out' = pick (sound_words b) (RecordedAs b u l ws out r b' out') (NoBench b out r b' out')
