-- What one record says: a line's operation, with a pair of serials beside each member of a blossom. And its line in the text form. Assumes nothing.
use Rattle.std.specs.Prelude.{ℕ, Bool, true, ◌&&◌, List, [], ◌∷◌, eqb, None, Option, Some}
use Rattle.ledger_spec.specs.Operations.{Operation, D, B, E, S, G, F, C, K, written_by}
use Rattle.ledger_spec.specs.Grammar.{Line}
use Rattle.text_lines.specs.Texts.{line_text}

pub record Member : Type 0 where
  pub serial : ℕ
  pub first : ℕ
  pub second : ℕ

-- an operation as a record says it
abbrev pub Op : Type 0
Op = Operation Member

-- ---- to the line, which has no pairs

abbrev pub serial_of : Member → ℕ
serial_of m = m.serial

abbrev pub line_said : Op → Line
line_said op = Some (written_by serial_of op)

-- the line's bytes without the newline
abbrev pub line_of_op : Op → List ℕ
line_of_op op = line_text (line_said op)

-- ---- and from it, every pair the member itself

abbrev pub itself : ℕ → Member
itself k = record { serial = k; first = k; second = k }

abbrev pub op_of_line : Line → Option Op
op_of_line None = None
op_of_line (Some op) = Some (written_by itself op)

-- is every pair the member itself
unfoldable pub selves : List Member → Bool
selves [] = true
selves (m ∷ ms) = (eqb m.first m.serial && eqb m.second m.serial) && selves ms

unfoldable pub self : Op → Bool
self (D u v) = true
self (B u ms) = selves ms
self (E u k) = true
self (S u k g) = true
self (G u l) = true
self (F p l r) = true
self (C u) = true
self (K u) = true
