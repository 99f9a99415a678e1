-- Growing against a recorded list of groups, as the original's `grow_iterative` does against a dual module's answers: while length is left, the next group is
-- taken, and the tree grows by the smaller of its growth and what is left. Assumes nothing.
use Rattle.std.specs.Prelude.{ℕ, zero, suc, Bool, true, false, not, List, [], ◌∷◌, ◌++◌, ltb, length, ℤ, pos, ◌-ℤ◌, None, Option, Some}
use Rattle.std.specs.Int.Signed.{lt_z}
use Rattle.ledger_spec.specs.Numbers.{BROKEN, LENGTH, SMALL, NOTHING, STUCK, SHORT}
use Rattle.ledger_spec.specs.Bench.{Bench}
use Rattle.ledger_spec.specs.Tests.{first}
use Rattle.ledger_spec.specs.Refuse.{unit_tests, grow_tests}
use Rattle.ledger_spec.specs.Deeds.{grow_by}
use Rattle.ledger_spec.specs.Sound.{sound}
use Rattle.ledger_spec.specs.Groups.{Group, growth, conflicts, largest, eq_z, smaller}

-- ---- a position of the recording: a group, or none where it is broken

-- what a step is refused for there, before the bench is asked
unfoldable pub group_tests : Option Group → List (Bool × ℕ)
group_tests None = (true, BROKEN) ∷ []
group_tests (Some (growth n f)) = (eq_z n largest, NOTHING) ∷ (not (lt_z (pos 0) n), STUCK) ∷ []
group_tests (Some (conflicts es ss)) = (true, STUCK) ∷ []

abbrev pub growth_in : Option Group → ℤ
growth_in None = pos 0
growth_in (Some (growth n f)) = n
growth_in (Some (conflicts es ss)) = pos 0

-- how far the step goes
abbrev pub step_by : ℤ → Option Group → ℤ
step_by left g = smaller left (growth_in g)

-- ---- step by step

-- a number, the lengths of the steps, the bench after them
pub record Steps : Type 0 where
  pub number : ℕ
  pub lengths : List ℤ
  pub bench : Bench

abbrev pub stopped : ℕ → Bench → Steps
stopped n b = record { number = n; lengths = []; bench = b }

-- the steps after one of length l, which is refused at any number but 0
abbrev pub onward : ℕ → ℤ → Bench → Steps → Steps
onward zero l b s = record { number = s.number; lengths = l ∷ s.lengths; bench = s.bench }
onward (suc k) l b s = stopped (suc k) b

unfoldable pub steps : Bench → ℕ → ℤ → List (Option Group) → Steps
steps b u left [] = elim (lt_z (pos 0) left) [ true ↦ stopped SHORT b | false ↦ stopped 0 b ]
steps b u left (g ∷ gs) = elim (lt_z (pos 0) left) [
  | true ↦ onward (first (group_tests g ++ grow_tests b u (step_by left g))) (step_by left g) b (steps (grow_by b u (step_by left g)) u (left -ℤ step_by left g) gs)
  | false ↦ stopped 0 b
]

-- ---- the call

-- what comes before any position
unfoldable pub recorded_tests : Bench → ℕ → ℤ → List (Bool × ℕ)
recorded_tests b u l = unit_tests b u ++ (lt_z l (pos 0), LENGTH) ∷ []

-- the first number that is not 0
abbrev pub or_else : ℕ → ℕ → ℕ
or_else zero n = n
or_else (suc k) n = suc k

-- there is room for `room` lengths, one a group
unfoldable pub recorded_no : Bench → ℕ → ℤ → List (Option Group) → ℕ → ℕ
recorded_no b u l gs room = or_else (first (recorded_tests b u l)) (or_else (steps b u l gs).number (first ((ltb room (length gs), SMALL) ∷ [])))

-- all steps, or where one is refused none
abbrev pub all_or_none : ℕ → Bench → Steps → Steps
all_or_none zero b s = record { number = 0; lengths = s.lengths; bench = s.bench }
all_or_none (suc k) b s = stopped (suc k) b

unfoldable pub grow_recorded : Bench → ℕ → ℤ → List (Option Group) → ℕ → Steps
grow_recorded b u l gs room = elim (sound b) [ true ↦ all_or_none (recorded_no b u l gs room) b (steps b u l gs) | false ↦ stopped BROKEN b ]
