-- What a growth over a recording answers and leaves, on sound words: number, how many groups, their lengths in front of the lent slice, the words after.
-- Assumes nothing.
use Rattle.std.specs.Prelude.{ℕ, ◌≤◌, ◌≡◌, List, map, length, ℤ, pos, nat_abs}
use Rattle.std.proofs.lemmas.List.Edits.{sets}
use Rattle.ledger_spec.specs.Calls.{Grow}
use Rattle.ledger_spec.specs.Answers.{answer}
use Rattle.bench_views.specs.View.{view}
use Rattle.bench_views.specs.Fit.{SoundWords}
use Rattle.recorded_spec.specs.Recorded.{Steps, stopped, grow_recorded}
use Rattle.recorded_groups.specs.Recording.{recording_of}
use Rattle.recorded_steps.specs.declared.Passed.{Passed}
use Rattle.recorded_steps.specs.Passes.{steps_of}

-- the plain ledger's answer, for the words of a bench and a recording and a slice with room for so many lengths
abbrev pub recorded_on : List ℕ → ℕ → ℤ → List ℕ → ℕ → Steps
recorded_on b u l ws room = grow_recorded (view b) u l (recording_of ws) room

-- accepted: the growth in one is accepted, and the lengths are the recording's own
pub record Went (b : List ℕ) (u : ℕ) (l : ℤ) (ws : List ℕ) (room : ℕ) : Type 0 where
  pub forward : l ≡ pos (nat_abs l)
  pub ready : (steps_of ws (nat_abs l)).number ≡ 0
  pub lengths : (recorded_on b u l ws room).lengths ≡ (steps_of ws (nat_abs l)).lengths
  pub fits : length (steps_of ws (nat_abs l)).lengths ≤ room
  pub accepted : (answer (view b) (Grow u l)).number ≡ 0
  pub bench : (recorded_on b u l ws room).bench ≡ (answer (view b) (Grow u l)).bench

-- the tests' verdict, before anything grows
pub record JudgedAs (b : List ℕ) (u : ℕ) (l : ℤ) (ws : List ℕ) (room : ℕ) (r : Passed) : Type 0 where
  pub number : r.number ≡ (recorded_on b u l ws room).number
  pub taken : r.taken ≡ length (recorded_on b u l ws room).lengths
  pub went : r.number ≡ 0 → Went b u l ws room
  pub stays : (r.number ≡ 0 → ⊥) → recorded_on b u l ws room ≡ stopped r.number (view b)

-- the whole call
pub record RecordedAs (b : List ℕ) (u : ℕ) (l : ℤ) (ws out : List ℕ) (r : Passed) (b' out' : List ℕ) : Type 0 where
  pub number : r.number ≡ (recorded_on b u l ws (length out)).number
  pub taken : r.taken ≡ length (recorded_on b u l ws (length out)).lengths
  pub lengths : out' ≡ sets out 0 (map nat_abs (recorded_on b u l ws (length out)).lengths)
  pub words : SoundWords b'
  pub seen : view b' ≡ (recorded_on b u l ws (length out)).bench
  pub refused : (r.number ≡ 0 → ⊥) → b' ≡ b
