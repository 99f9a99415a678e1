-- What the code answers of a record: its bytes, its line's bytes with the newline, whether every pair is the member. And members read by places.
-- Assumes nothing.
use Rattle.std.specs.Prelude.{ℕ, zero, suc, ◌+◌, true, false, ◌&&◌, List, [], ◌∷◌, eqb, leb, length, None, Option, Some}
use Rattle.ledger_spec.specs.Bench.{State, rate}
use Rattle.ledger_spec.specs.Decimals.{decimal, signed}
use Rattle.ledger_spec.specs.Operations.{B}
use Rattle.record_spec.specs.Numbers.{then}
use Rattle.record_spec.specs.Operations.{Member, Op, line_of_op, self}
use Rattle.record_spec.specs.Records.{bytes_of}
use Rattle.record_spec.specs.Reader.{state_in, rest, good}
use Rattle.record_spec.specs.Places.{at}
use Rattle.record_measures.specs.declared.Measured.{Measured}
use Rattle.record_measures.specs.declared.blossoms.Weight.{Weight}

-- ---- a record

abbrev pub nothing : Measured
nothing = record { size = 0; line = 0; own = true }

abbrev pub sizes : Op → Measured
sizes op = record { size = length (bytes_of op); line = suc (length (line_of_op op)); own = self op }

abbrev pub measured_of : Option (Op × List ℕ) → Measured
measured_of None = nothing
measured_of (Some p) = sizes p.0

-- only a record whose line is not LINE
unfoldable pub kept : Option (Op × List ℕ) → Option (Op × List ℕ)
kept o = then o (λ op r. elim (good op) [ true ↦ Some (op, r) | false ↦ None ])

-- after the letter and the unit
abbrev pub tried : ℕ → ℕ → List ℕ → Measured
tried letter u s = measured_of (kept (rest letter u s))

-- ---- a state's text

abbrev pub digits_of : Option State → ℕ
digits_of None = 0
digits_of (Some g) = length (signed (rate g))

unfoldable pub state_digits : ℕ → ℕ
state_digits n = digits_of (state_in n)

-- ---- members

abbrev pub member_at : List ℕ → ℕ → Member
member_at s p = record { serial = at 4 s p; first = at 4 s (p + 4); second = at 4 s (p + 8) }

unfoldable pub members_at : ℕ → List ℕ → ℕ → List Member
members_at zero s p = []
members_at (suc n) s p = member_at s p ∷ members_at n s (p + 12)

unfoldable pub member_weight : Member → Weight
member_weight m = elim (leb 1 m.serial && (leb 1 m.first && leb 1 m.second)) [
  | true ↦ record { line = suc (length (decimal m.serial)); own = eqb m.first m.serial && eqb m.second m.serial }
  | false ↦ record { line = 0; own = true }
]

abbrev pub tried_members : ℕ → List Member → Measured
tried_members u ms = measured_of (kept (Some (B u ms, [])))
