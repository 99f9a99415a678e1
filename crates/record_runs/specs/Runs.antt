-- A run on lent words: what record_says has for the bench that they hold; BROKEN where they hold none, after FILE and before SMALL. Assumes nothing.
use Rattle.std.specs.Prelude.{ℕ, ◌*◌, ◌≤◌, ◌≡◌, List, [], ◌∷◌, ◌++◌, ℤ, pos, length, drop, None, Option, Some}
use Rattle.ledger_spec.specs.Numbers.{BROKEN}
use Rattle.bench_words.specs.Codec.{pick}
use Rattle.bench_views.specs.View.{view}
use Rattle.bench_views.specs.Fit.{SoundWords}
use Rattle.sound_bench.specs.Sound.{sound_words}
use Rattle.text_numbers.specs.declared.Reply.{Reply}
use Rattle.record_spec.specs.Operations.{Op}
use Rattle.record_spec.specs.Files.{records_of, file_ops}
use Rattle.record_says.specs.Says.{answers_ops, after_ops}
use Rattle.record_says.specs.Runs.{in_fours, Run, run_file}
use Rattle.record_runs.specs.declared.Ran.{Ran as Said}

abbrev pub four_of : Reply → List ℤ
four_of r = pos r.number ∷ pos r.serial ∷ r.speed ∷ r.sum ∷ []

-- what a run of the ledger's comes to on words: its number and count, its slice; the bench's words are sound, and refused as they were
pub record RanAs (a : Run) (b : List ℕ) (r : Said) (b' : List ℕ) (slice' : List ℤ) : Type 0 where
  pub number : r.number ≡ a.number
  pub count : r.count ≡ a.count
  pub words : SoundWords b'
  pub seen : view b' ≡ a.bench
  pub slice : slice' ≡ a.slice
  pub refused : (r.number ≡ 0 → ⊥) → b' ≡ b

-- on words that hold a sound bench
abbrev pub Ran : List ℕ → List ℕ → List ℤ → Said → List ℕ → List ℤ → Type 0
Ran b file slice r b' slice' = RanAs (run_file (view b) file slice) b r b' slice'

-- nothing is touched
pub record Refused (number : ℕ) (b : List ℕ) (slice : List ℤ) (r : Said) (b' : List ℕ) (slice' : List ℤ) : Type 0 where
  pub is : r ≡ record { number = number; count = 0 }
  pub words : b' ≡ b
  pub slices : slice' ≡ slice

-- on any words: FILE, then BROKEN, then what the run answers
abbrev pub RanOf : Option (List Op) → List ℕ → List ℕ → List ℤ → Said → List ℕ → List ℤ → Type 0
RanOf None b file slice r b' slice' = Refused 23 b slice r b' slice'
RanOf (Some ops) b file slice r b' slice' = pick (sound_words b) (Ran b file slice r b' slice') (Refused 2 b slice r b' slice')

abbrev pub RanAny : List ℕ → List ℕ → List ℤ → Said → List ℕ → List ℤ → Type 0
RanAny b file slice r b' slice' = RanOf (file_ops file) b file slice r b' slice'

-- ---- inside a run

-- the file is whole, with its list at a place, and as many records
pub record Listing (file : List ℕ) (list count : ℕ) : Type 0 where
  pub ops : List Op
  pub whole : file_ops file ≡ Some ops
  pub starts : list ≡ length (records_of ops)
  pub many : count ≡ length ops

-- and there is room for their answers
pub record Ready (file : List ℕ) (list count room : ℕ) : Type 0 where
  pub listing : Listing file list count
  pub fits : 4 * count ≤ room

pub record AnswersOf (ops : List Op) (b : List ℕ) (slice : List ℤ) (b' : List ℕ) (slice' : List ℤ) : Type 0 where
  pub words : SoundWords b'
  pub seen : view b' ≡ after_ops (view b) ops
  pub slices : slice' ≡ in_fours (answers_ops (view b) ops) ++ drop (4 * length ops) slice

abbrev pub Answers : List ℕ → List ℕ → List ℤ → List ℕ → List ℤ → Type 0
Answers b file slice b' slice' = (ops : List Op) → file_ops file ≡ Some ops → AnswersOf ops b slice b' slice'
