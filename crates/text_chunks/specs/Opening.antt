-- An input from its beginning, chunk by chunk: until its first line has ended, that line may choose the engine. Assumes nothing.
use Rattle.std.specs.Prelude.{ℕ, ◌≤◌, Bool, true, false, ◌≡◌, List, [], ◌∷◌, ◌++◌, eqb, ℤ, length, take, None, Option, Some}
use Rattle.text_decimals.specs.Wrote.{Wrote}
use Rattle.ledger_spec.specs.Bench.{Bench, set_up}
use Rattle.ledger_spec.specs.Lines.{LineAnswer}
use Rattle.ledger_spec.specs.Opening.{opening}
use Rattle.ledger_spec.specs.Program.{answers, after_lines, text_of, texts}
use Rattle.text_chunks.specs.Chunks.{lines, left, last, first_line}
use Rattle.text_chunks.specs.Answering.{replies}

-- ---- a chunk, by the first line that it ends and what stands after it: nothing is said while there is none

abbrev pub open_said : Option (List ℕ × List ℕ) → List (ℕ × ℕ × ℤ × ℤ)
open_said None = []
open_said (Some x) = (opening x.0).numbers ∷ answers (opening x.0).bench (lines [] x.1)

abbrev pub open_bench : Option (List ℕ × List ℕ) → Bench
open_bench None = set_up 1
open_bench (Some x) = after_lines (opening x.0).bench (lines [] x.1)

abbrev pub is_none : Option (List ℕ × List ℕ) → Bool
is_none None = true
is_none (Some x) = false

-- ---- into a lent slice

-- a first line was answered at the front
pub record FirstAnswered (o : LineAnswer) (b' : Bench) (out out' : List ℕ) (r : ℕ) : Type 0 where
  pub bench : b' ≡ o.bench
  pub text : Wrote out 0 (text_of o.numbers) out' r
  pub few : length (text_of o.numbers) ≤ 57

-- a chunk was answered at the front, where p was held of the first line before it, and the front of buf' is held after it; nothing was written exactly where
-- the first line is not ended yet
pub record OpeningAnswered (chunk p out : List ℕ) (b' : Bench) (buf' out' : List ℕ) (held wrote : ℕ) : Type 0 where
  pub bench : b' ≡ open_bench (first_line p chunk)
  pub text : Wrote out 0 (texts (open_said (first_line p chunk))) out' wrote
  pub kept : take held buf' ≡ left p chunk
  pub unended : eqb wrote 0 ≡ is_none (first_line p chunk)
  pub short : held ≤ 1024
  pub long : length buf' ≡ 1024

-- ---- a whole input

-- what is written for an input that comes in these chunks, where p is held of its first line
abbrev pub open_on : Option (List ℕ × List ℕ) → List ℕ → List (List ℕ) → List ℕ → List ℕ
open_on None p cs later = later
open_on (Some x) p cs later = texts (open_said (Some x)) ++ replies (open_bench (Some x)) p cs

unfoldable pub open_replies : List ℕ → List (List ℕ) → List ℕ
open_replies p [] = texts (answers (set_up 1) (last p))
open_replies p (c ∷ cs) = open_on (first_line p c) (left p c) cs (open_replies (left p c) cs)
