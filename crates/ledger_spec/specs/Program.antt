-- The text program whole: standard input's bytes to standard output's, from a bench with first serial 1, in the engine that the first line chooses, else in
-- the lazy one. Assumes nothing.
use Rattle.std.specs.Prelude.{ℕ, List, [], ◌∷◌, ◌++◌, ℤ}
use Rattle.ledger_spec.specs.Bench.{Bench, set_up}
use Rattle.ledger_spec.specs.Decimals.{decimal, signed}
use Rattle.ledger_spec.specs.Fields.{cut}
use Rattle.ledger_spec.specs.Grammar.{Line, wrong, line_of}
use Rattle.ledger_spec.specs.Lines.{says}
use Rattle.ledger_spec.specs.Opening.{opening}

-- the lines of an input: each that a newline ends says what it says (an overlong one is wrong by `line_of`); a last one without newline is wrong;
-- nothing after the last newline is no line
unfoldable pub ended : List (List ℕ) → List Line
ended [] = []
ended ([] ∷ []) = []
ended ((c ∷ s) ∷ []) = wrong ∷ []
ended (l ∷ m ∷ ls) = line_of l ∷ ended (m ∷ ls)

unfoldable pub lines_of : List ℕ → List Line
lines_of s = ended (cut 10 s)

-- the answers of lines, one after the other, and the bench after them
unfoldable pub answers : Bench → List Line → List (ℕ × ℕ × ℤ × ℤ)
answers b [] = []
answers b (l ∷ ls) = (says b l).numbers ∷ answers (says b l).bench ls

unfoldable pub after_lines : Bench → List Line → Bench
after_lines b [] = b
after_lines b (l ∷ ls) = after_lines (says b l).bench ls

-- number, serial, speed, sum, with one space between, and a newline
unfoldable pub text_of : ℕ × ℕ × ℤ × ℤ → List ℕ
text_of a = decimal a.0 ++ ((32 ∷ decimal a.1) ++ ((32 ∷ signed a.2) ++ ((32 ∷ signed a.3) ++ (10 ∷ []))))

unfoldable pub texts : List (ℕ × ℕ × ℤ × ℤ) → List ℕ
texts [] = []
texts (x ∷ xs) = text_of x ++ texts xs

-- ---- a whole input, by what stands between its newlines: only a line that a newline ends opens

unfoldable pub open_answers : List (List ℕ) → List (ℕ × ℕ × ℤ × ℤ)
open_answers [] = []
open_answers (l ∷ []) = answers (set_up 1) (ended (l ∷ []))
open_answers (l ∷ m ∷ ls) = (opening l).numbers ∷ answers (opening l).bench (ended (m ∷ ls))

unfoldable pub open_after : List (List ℕ) → Bench
open_after [] = set_up 1
open_after (l ∷ []) = set_up 1
open_after (l ∷ m ∷ ls) = after_lines (opening l).bench (ended (m ∷ ls))

unfoldable pub program : List ℕ → List ℕ
program input = texts (open_answers (cut 10 input))

-- the bench after it
unfoldable pub program_leaves : List ℕ → Bench
program_leaves input = open_after (cut 10 input)
