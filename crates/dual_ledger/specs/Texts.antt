-- What a linked line of text answers and leaves: its four numbers as words, and the words after. Assumes nothing.
use Rattle.std.specs.Prelude.{ℕ, ◌≡◌, true, false, List, ℤ}
use Rattle.ledger_spec.specs.Grammar.{line_of}
use Rattle.ledger_spec.specs.Lines.{says}
use Rattle.bench_views.specs.View.{view}
use Rattle.bench_views.specs.Fit.{SoundWords}
use Rattle.sound_bench.specs.Sound.{sound_words}
use Rattle.link_answers.specs.Forms.{signed_word}

-- number, serial, speed, sum
abbrev pub four_words : ℕ × ℕ × ℤ × ℤ → ℕ × ℕ × ℕ × ℕ
four_words a = (a.0, a.1, signed_word a.2, signed_word a.3)

-- on sound words b, a line answers n, k, v and w, and leaves the words b'
pub record LineBy (b line : List ℕ) (n k v w : ℕ) (b' : List ℕ) : Type 0 where
  pub numbers : (n, k, v, w) ≡ four_words (says (view b) (line_of line)).numbers
  pub words : SoundWords b'
  pub seen : view b' ≡ (says (view b) (line_of line)).bench

-- the same on any words: BROKEN where they hold no sound bench
pub record LineLeft (b line : List ℕ) (n k v w : ℕ) (b' : List ℕ) : Type 0 where
  pub sound : sound_words b ≡ true → LineBy b line n k v w b'
  pub broken : sound_words b ≡ false → (n ≡ 2) × (k ≡ 0) × (v ≡ 0) × (w ≡ 0) × (b' ≡ b)
