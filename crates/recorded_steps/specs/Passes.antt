-- What the pass over a recording answers: the number that stops it, or how many groups it takes. Assumes nothing.
use Rattle.std.specs.Prelude.{ℕ, ◌+◌, ◌≤◌, ◌≡◌, List, [], ◌∷◌, length, take, drop, ℤ, pos}
use Rattle.std.specs.Int.Signed.{lt_z}
use Rattle.ledger_spec.specs.Numbers.{LENGTH, BELOW, SHORT}
use Rattle.ledger_spec.specs.Tests.{first}
use Rattle.recorded_spec.specs.Recorded.{group_tests, step_by}
use Rattle.recorded_spec.specs.Sums.{Sums, sums}
use Rattle.recorded_groups.specs.Recording.{played, recording_of}
use Rattle.recorded_steps.specs.declared.Passed.{Passed}
use Rattle.recorded_steps.specs.declared.Step.{Step}

-- what a growth by so much in all is refused for: `reach` is the most that the progress leaves, `floor` the most that the values leave
abbrev pub limit_no : ℕ → ℕ → ℤ → ℕ
limit_no reach floor t = first ((lt_z (pos reach) t, LENGTH) ∷ (lt_z (pos floor) t, BELOW) ∷ [])

pub record PassedAs (s : Sums) (r : Passed) : Type 0 where
  pub number : r.number ≡ s.number
  pub taken : r.number ≡ 0 → r.taken ≡ length s.lengths
  pub none_taken : (r.number ≡ 0 → ⊥) → r.taken ≡ 0

-- the words of the position at `at`
abbrev pub window : List ℕ → ℕ → List ℕ
window ws at = take 1413 (drop at ws)

-- the position at `at`, for a step of at most `left`
pub record StepAs (ws : List ℕ) (at left : ℕ) (r : Step) : Type 0 where
  pub short : length ws ≡ at → r.number ≡ SHORT
  pub number : (length ws ≡ at → ⊥) → r.number ≡ first (group_tests (played (window ws at)))
  pub by : r.number ≡ 0 → step_by (pos left) (played (window ws at)) ≡ pos r.by
  pub end : r.number ≡ 0 → (r.end ≡ at + 1413) × (r.end ≤ length ws)

-- ---- the lengths written

-- the steps of a growth by l, whatever the bench would say to them
abbrev pub steps_of : List ℕ → ℕ → Sums
steps_of ws l = sums (λ t. 0) (pos 0) (pos l) (recording_of ws)

-- they are there, and there is room for their lengths
pub record Ready (ws : List ℕ) (l : ℕ) (out : List ℕ) : Type 0 where
  pub accepted : (steps_of ws l).number ≡ 0
  pub room : length (steps_of ws l).lengths ≤ length out
