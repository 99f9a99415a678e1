-- The two moves as calls: a text file to a file of records, and back, into a lent output. Assumes nothing.
use Rattle.std.specs.Prelude.{ℕ, Bool, true, false, ◌&&◌, List, [], ◌∷◌, ◌++◌, leb, length, drop, None, Option, Some}
use Rattle.ledger_spec.specs.Numbers.{SMALL, SELF, FILE}
use Rattle.ledger_spec.specs.Grammar.{Line}
use Rattle.ledger_spec.specs.Program.{lines_of}
use Rattle.record_spec.specs.Operations.{Op, line_of_op, op_of_line, self}
use Rattle.record_spec.specs.Files.{file_of, file_ops, largest}

-- ---- a text file and its operations

-- the operations of lines, none of which is LINE
unfoldable pub ops_of : List Line → Option (List Op)
ops_of [] = Some []
ops_of (l ∷ ls) = elim (op_of_line l) [ None ↦ None | Some op ↦ elim (ops_of ls) [ None ↦ None | Some ops ↦ Some (op ∷ ops) ] ]

unfoldable pub text_ops : List ℕ → Option (List Op)
text_ops s = ops_of (lines_of s)

-- each line with its newline
unfoldable pub text_of : List Op → List ℕ
text_of [] = []
text_of (op ∷ ops) = line_of_op op ++ (10 ∷ text_of ops)

unfoldable pub all_self : List Op → Bool
all_self [] = true
all_self (op ∷ ops) = self op && all_self ops

-- ---- what a move answers

pub record Moved : Type 0 where
  pub number : ℕ
  pub size : ℕ
  pub output : List ℕ

-- the output as it was
abbrev pub refused : ℕ → List ℕ → Moved
refused number out = record { number = number; size = 0; output = out }

-- the result in front of the output, the rest as before; SMALL if it is too short
unfoldable pub written : List ℕ → List ℕ → Moved
written result out = elim (leb (length result) (length out)) [
  | true ↦ record { number = 0; size = length result; output = result ++ drop (length result) out }
  | false ↦ refused SMALL out
]

-- FILE: a bad line, or a result past 4,294,967,295 bytes
unfoldable pub to_records : List ℕ → List ℕ → Moved
to_records text out = elim (text_ops text) [
  | None ↦ refused FILE out
  | Some ops ↦ elim (leb (length (file_of ops)) largest) [ true ↦ written (file_of ops) out | false ↦ refused FILE out ]
]

-- FILE: not a whole file; SELF: a pair that is not the member
unfoldable pub to_text : List ℕ → List ℕ → Moved
to_text file out = elim (file_ops file) [
  | None ↦ refused FILE out
  | Some ops ↦ elim (all_self ops) [ true ↦ written (text_of ops) out | false ↦ refused SELF out ]
]
