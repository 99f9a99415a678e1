-- A run of all that is public and works on a bench: calls, growth over a recording, files of records, questions, in any order; each is lent the words that
-- the one before left, and meets its contract. Assumes nothing.
use Rattle.std.specs.Prelude.{ℕ, List, [], ◌∷◌, ℤ}
use Rattle.ledger_spec.specs.Calls.{Call}
use Rattle.sound_bench.specs.Sound.{sound_words}
use Rattle.call_told.specs.declared.Answer.{Answer}
use Rattle.call_told.specs.Told.{Called}
use Rattle.recorded_steps.specs.declared.Passed.{Passed}
use Rattle.recorded_sound.specs.Answers.{RecordedAs}
use Rattle.record_runs.specs.declared.Ran.{Ran}
use Rattle.record_runs.specs.Runs.{RanAny}
use Rattle.engine_runs.specs.Asked.{Question, Given, asked}

-- what is asked for, with the lists lent for the answer
pub data Step : Type 0 where
  call : Call → Step
  grow : (unit : ℕ) (by : ℤ) (recording room : List ℕ) → Step
  file : (bytes : List ℕ) (room : List ℤ) → Step
  ask : Question → Step

-- what comes back, with the lists as they are left
pub data Seen : Type 0 where
  called : Answer → Seen
  grown : Passed → List ℕ → Seen
  ran : Ran → List ℤ → Seen
  told : (q : Question) → ℕ × Given q → Seen

pub data Session : List ℕ → List Step → List Seen → List ℕ → Type 0 where
  stop : {b : List ℕ} → Session b [] [] b
  calls : {b b' b'' : List ℕ} {c : Call} {r : Answer} {xs : List Step} {ys : List Seen}
      → Called (sound_words b) b c r b' → Session b' xs ys b'' → Session b (call c ∷ xs) (called r ∷ ys) b''
  grows : {b b' b'' : List ℕ} {u : ℕ} {by : ℤ} {recording room room' : List ℕ} {r : Passed} {xs : List Step} {ys : List Seen}
      → RecordedAs b u by recording room r b' room' → Session b' xs ys b'' → Session b (grow u by recording room ∷ xs) (grown r room' ∷ ys) b''
  files : {b b' b'' : List ℕ} {bytes : List ℕ} {room room' : List ℤ} {r : Ran} {xs : List Step} {ys : List Seen}
      → RanAny b bytes room r b' room' → Session b' xs ys b'' → Session b (file bytes room ∷ xs) (ran r room' ∷ ys) b''
  asks : {b b'' : List ℕ} {q : Question} {xs : List Step} {ys : List Seen} → Session b xs ys b'' → Session b (ask q ∷ xs) (told q (asked b q) ∷ ys) b''
