-- The sound test's verdict on words and what it says of them; and what a read of any words answers. Assumes nothing.
use Rattle.std.specs.Prelude.{ℕ, ◌≡◌, Bool, true, List}
use Rattle.ledger_spec.specs.Answers.{Read}
use Rattle.bench_words.specs.Codec.{pick}
use Rattle.bench_views.specs.Fit.{SoundWords}
use Rattle.sound_bench.specs.Sound.{sound_words}

pub record Verdict (b : List ℕ) (s : Bool) : Type 0 where
  pub is : s ≡ sound_words b
  pub says : s ≡ true → SoundWords b

-- a read r of words b, where z is its answer's value if refused: the read's own answer where the words hold a sound bench, else BROKEN
unfoldable pub asked : {A : Type 0} → List ℕ → A → ℕ × A → ℕ × A
asked b z r = pick (sound_words b) r (2, z)

-- a read of any words, with its zero (crate ledger_spec, Answers)
abbrev pub read_words : {A : Type 0} → List ℕ → Read A → ℕ × A
read_words b r = asked b r.zero r.own
