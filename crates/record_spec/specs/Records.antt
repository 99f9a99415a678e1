-- One record in bytes: its line's letter and fields in order, low byte first; and which operations have one. Assumes nothing.
use Rattle.std.specs.Prelude.{ℕ, ◌≤◌, List, [], ◌∷◌, ◌++◌, length}
use Rattle.ledger_spec.specs.Bench.{State, grows, stays, shrinks}
use Rattle.ledger_spec.specs.Operations.{D, B, E, S, G, F, C, K}
use Rattle.text_lines.specs.Texts.{letter_of, Serial32, Fit}
use Rattle.record_spec.specs.Numbers.{bytes, complement}
use Rattle.record_spec.specs.Operations.{Member, Op, line_said, line_of_op}

-- ---- written

-- -1 as 255
abbrev pub state_byte : State → ℕ
state_byte stays = 0
state_byte grows = 1
state_byte shrinks = 255

-- each member's serial and pair
unfoldable pub member_fields : List Member → List (ℕ × ℕ)
member_fields [] = []
member_fields (m ∷ ms) = (4, m.serial) ∷ (4, m.first) ∷ (4, m.second) ∷ member_fields ms

-- the fields after the letter: in how many bytes, and the number
unfoldable pub fields : Op → List (ℕ × ℕ)
fields (D u v) = (1, u) ∷ (4, v) ∷ []
fields (B u ms) = (1, u) ∷ (2, length ms) ∷ member_fields ms
fields (E u k) = (1, u) ∷ (4, k) ∷ []
fields (S u k g) = (1, u) ∷ (4, k) ∷ (1, state_byte g) ∷ []
fields (G u l) = (1, u) ∷ (8, complement l) ∷ []
fields (F p l r) = (1, p) ∷ (1, l) ∷ (1, r) ∷ []
fields (C u) = (1, u) ∷ []
fields (K u) = (1, u) ∷ []

unfoldable pub spelled : List (ℕ × ℕ) → List ℕ
spelled [] = []
spelled (f ∷ fs) = bytes f.0 f.1 ++ spelled fs

unfoldable pub bytes_of : Op → List ℕ
bytes_of op = letter_of (line_said op) ++ spelled (fields op)

-- ---- which operations have a record: the line is not LINE, which every number in its range and at least one member say, and pairs are serials

abbrev pub Pairs : List Member → Type 0
Pairs [] = Unit {0}
Pairs (m ∷ ms) = Serial32 m.first × Serial32 m.second × Pairs ms

abbrev pub PairsOf : Op → Type 0
PairsOf (D u v) = Unit {0}
PairsOf (B u ms) = Pairs ms
PairsOf (E u k) = Unit {0}
PairsOf (S u k g) = Unit {0}
PairsOf (G u l) = Unit {0}
PairsOf (F p l r) = Unit {0}
PairsOf (C u) = Unit {0}
PairsOf (K u) = Unit {0}

pub record Writable (op : Op) : Type 0 where
  pub fit : Fit (line_said op)
  pub pairs : PairsOf op
  pub short : length (line_of_op op) ≤ 1023
