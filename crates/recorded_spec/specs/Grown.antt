-- What the theorems of recorded growth speak of: growths one after the other, each accepted. Assumes nothing.
use Rattle.std.specs.Prelude.{ℕ, ◌≡◌, List, [], ◌∷◌, ℤ}
use Rattle.ledger_spec.specs.Bench.{Bench}
use Rattle.ledger_spec.specs.Calls.{Grow}
use Rattle.ledger_spec.specs.Answers.{answer}

-- `grow` called with each of the lengths, accepted every time, brings b to b'
pub data OneByOne (u : ℕ) : Bench → List ℤ → Bench → Type 0 where
  none_left : {b : Bench} → OneByOne u b [] b
  grown_by : {b b' : Bench} {l : ℤ} {ls : List ℤ} → (answer b (Grow u l)).number ≡ 0 → OneByOne u (answer b (Grow u l)).bench ls b' → OneByOne u b (l ∷ ls) b'
