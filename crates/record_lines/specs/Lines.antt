-- A record's line, by the places of its numbers. Assumes nothing.
use Rattle.std.specs.Prelude.{ℕ, suc, ◌+◌, ◌*◌, ◌≤◌, List, [], ◌∷◌, ◌++◌, map, eqb, length, None, Option, Some}
use Rattle.ledger_spec.specs.Decimals.{decimal, signed}
use Rattle.ledger_spec.specs.Grammar.{Fields}
use Rattle.record_spec.specs.Numbers.{length_in}
use Rattle.record_spec.specs.Operations.{Op, serial_of, line_of_op}
use Rattle.record_spec.specs.Reader.{pick}
use Rattle.record_spec.specs.Places.{at}
use Rattle.record_measures.specs.Measures.{members_at}

-- ---- the line with its newline, of a record that stands there

abbrev pub line_in : Option (Op × List ℕ) → List ℕ
line_in None = []
line_in (Some p) = line_of_op p.0 ++ (10 ∷ [])

-- the record is there, and so is room for its line from a place on
abbrev pub Ready : Option (Op × List ℕ) → ℕ → ℕ → Type 0
Ready None from room = ⊥
Ready (Some p) from room = from + suc (length (line_of_op p.0)) ≤ room

-- ---- by places

-- fields, with a space before each
unfoldable pub tail : Fields → List ℕ
tail [] = []
tail (f ∷ fs) = (32 ∷ f) ++ tail fs

-- a state's byte as text: 255 as -1
unfoldable pub state_text : ℕ → List ℕ
state_text n = pick (eqb n 255) (45 ∷ 49 ∷ []) (decimal n)

-- the serials of so many members from place q on
abbrev pub serial_fields : ℕ → List ℕ → ℕ → Fields
serial_fields n t q = map decimal (map serial_of (members_at n t q))

-- the fields after the unit, by the letter, from place q on
unfoldable pub fields_at : ℕ → List ℕ → ℕ → Fields
fields_at letter t q =
    pick (eqb letter 68) (decimal (at 4 t q) ∷ [])  -- D vertex
    (pick (eqb letter 66) (serial_fields (at 2 t q) t (q + 2))  -- B serial..
    (pick (eqb letter 69) (decimal (at 4 t q) ∷ [])  -- E serial
    (pick (eqb letter 83) (decimal (at 4 t q) ∷ state_text (at 1 t (q + 4)) ∷ [])  -- S serial state
    (pick (eqb letter 71) (signed (length_in (at 8 t q)) ∷ [])  -- G length
    (pick (eqb letter 70) (decimal (at 1 t q) ∷ decimal (at 1 t (q + 1)) ∷ [])  -- F left right
    [])))))

-- how many bytes their numbers take
unfoldable pub bytes_at : ℕ → List ℕ → ℕ → ℕ
bytes_at letter t q =
    pick (eqb letter 68) 4 (pick (eqb letter 66) (2 + 12 * at 2 t q) (pick (eqb letter 69) 4 (pick (eqb letter 83) 5 (pick (eqb letter 71) 8 (pick (eqb letter 70) 2 0)))))
