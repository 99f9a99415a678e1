-- The same steps by what has been grown so far, for code that tests first and grows once: `test` gives the number that a growth by so much in all is refused
-- with. Assumes nothing.
use Rattle.std.specs.Prelude.{ℕ, zero, suc, true, false, List, [], ◌∷◌, ℤ, pos, ◌+ℤ◌, ◌-ℤ◌, Option}
use Rattle.std.specs.Int.Signed.{lt_z}
use Rattle.ledger_spec.specs.Numbers.{SHORT}
use Rattle.ledger_spec.specs.Tests.{first}
use Rattle.ledger_spec.specs.Groups.{Group}
use Rattle.recorded_spec.specs.Recorded.{group_tests, step_by, or_else}

-- a number and the lengths of the steps
pub record Sums : Type 0 where
  pub number : ℕ
  pub lengths : List ℤ

abbrev pub refused : ℕ → Sums
refused n = record { number = n; lengths = [] }

abbrev pub further : ℕ → ℤ → Sums → Sums
further zero l s = record { number = s.number; lengths = l ∷ s.lengths }
further (suc k) l s = refused (suc k)

unfoldable pub sums : (ℤ → ℕ) → ℤ → ℤ → List (Option Group) → Sums
sums test done left [] = elim (lt_z (pos 0) left) [ true ↦ refused SHORT | false ↦ refused 0 ]
sums test done left (g ∷ gs) = elim (lt_z (pos 0) left) [
  | true ↦ further (or_else (first (group_tests g)) (test (done +ℤ step_by left g))) (step_by left g) (sums test (done +ℤ step_by left g) (left -ℤ step_by left g) gs)
  | false ↦ refused 0
]
