-- The run over a whole file, as a call: four signed numbers an operation into a lent slice. FILE first, SMALL last (BROKEN stands between them, where
-- words are lent). Assumes nothing.
use Rattle.std.specs.Prelude.{ℕ, ◌*◌, true, false, List, [], ◌∷◌, ◌++◌, leb, ℤ, pos, length, drop, None, Some}
use Rattle.ledger_spec.specs.Numbers.{SMALL, FILE}
use Rattle.ledger_spec.specs.Bench.{Bench}
use Rattle.record_spec.specs.Operations.{Op}
use Rattle.record_spec.specs.Files.{file_ops}
use Rattle.record_says.specs.Says.{answers_ops, after_ops}

-- number, serial, speed, sum
unfoldable pub in_fours : List (ℕ × ℕ × ℤ × ℤ) → List ℤ
in_fours [] = []
in_fours (a ∷ l) = pos a.0 ∷ pos a.1 ∷ a.2 ∷ a.3 ∷ in_fours l

-- a run's number, how many operations were answered, the bench after it, and the slice
pub record Run : Type 0 where
  pub number : ℕ
  pub count : ℕ
  pub bench : Bench
  pub slice : List ℤ

-- neither bench nor slice moves
abbrev pub refused : ℕ → Bench → List ℤ → Run
refused number b slice = record { number = number; count = 0; bench = b; slice = slice }

-- the answers in front of the slice, the rest as before
unfoldable pub answered : Bench → List Op → List ℤ → Run
answered b ops slice =
    record { number = 0; count = length ops; bench = after_ops b ops; slice = in_fours (answers_ops b ops) ++ drop (4 * length ops) slice }

unfoldable pub run_ops : Bench → List Op → List ℤ → Run
run_ops b ops slice = elim (leb (4 * length ops) (length slice)) [ true ↦ answered b ops slice | false ↦ refused SMALL b slice ]

unfoldable pub run_file : Bench → List ℕ → List ℤ → Run
run_file b file slice = elim (file_ops file) [ None ↦ refused FILE b slice | Some ops ↦ run_ops b ops slice ]
