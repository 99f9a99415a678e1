-- What the functions on files of records answer, number by number. Assumes nothing.
use Rattle.std.specs.Prelude.{ℕ, List, length, None, Option, Some}
use Rattle.ledger_spec.specs.Numbers.{FILE}
use Rattle.record_spec.specs.Operations.{Op}
use Rattle.record_spec.specs.Moves.{Moved}
use Rattle.record_packs.specs.Packs.{MovedAs}

-- 0 and how many records, or FILE
abbrev pub counted : Option (List Op) → ℕ × ℕ
counted None = (FILE, 0)
counted (Some ops) = (0, length ops)

-- a move's number, the bytes it wrote, and the slice after it
abbrev pub MovedBy : Moved → List ℕ → ℕ → ℕ → Type 0
MovedBy m out number size = MovedAs m out (record { number = number; size = size })
