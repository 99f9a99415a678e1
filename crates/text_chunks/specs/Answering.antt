-- A program that answers an input chunk by chunk: what it has written so far, and that the rest is to come. Assumes nothing.
use Rattle.std.specs.Prelude.{ℕ, ◌≤◌, ◌≡◌, List, [], ◌∷◌, ◌++◌, length, take}
use Rattle.text_decimals.specs.Wrote.{Wrote}
use Rattle.ledger_spec.specs.Bench.{Bench}
use Rattle.ledger_spec.specs.Grammar.{Line}
use Rattle.ledger_spec.specs.Lines.{says}
use Rattle.ledger_spec.specs.Program.{answers, after_lines, text_of, texts}
use Rattle.text_chunks.specs.Chunks.{lines, left, last}

-- From a bench b₀ with p₀ held and the chunk's rest t₀, the text was written, and the bench is b, p is held and t is left of the chunk: what
-- all of t₀ says is the text and then what t still says.
pub record Answering (b₀ : Bench) (p₀ t₀ : List ℕ) (b : Bench) (p t text : List ℕ) : Type 0 where
  pub said : texts (answers b₀ (lines p₀ t₀)) ≡ text ++ texts (answers b (lines p t))
  pub bench : after_lines b₀ (lines p₀ t₀) ≡ after_lines b (lines p t)
  pub held : left p₀ t₀ ≡ left p t

-- the chunk is used up
pub record Answered (b₀ : Bench) (p₀ t₀ : List ℕ) (b : Bench) (p text : List ℕ) : Type 0 where
  pub said : text ≡ texts (answers b₀ (lines p₀ t₀))
  pub bench : b ≡ after_lines b₀ (lines p₀ t₀)
  pub held : p ≡ left p₀ t₀

-- ---- into a lent slice

-- a line was answered at a place
pub record LineAnswered (b : Bench) (l : Line) (b' : Bench) (out : List ℕ) (at : ℕ) (out' : List ℕ) (r : ℕ) : Type 0 where
  pub bench : b' ≡ (says b l).bench
  pub text : Wrote out at (text_of (says b l).numbers) out' r
  pub few : length (text_of (says b l).numbers) ≤ 57

-- a chunk was answered at a place, where p was held before it, and the front of buf' is held after it; wrote is the place after its answers
pub record ChunkAnswered (b : Bench) (chunk p out : List ℕ) (at : ℕ) (b' : Bench) (buf' out' : List ℕ) (held wrote : ℕ) : Type 0 where
  pub bench : b' ≡ after_lines b (lines p chunk)
  pub text : Wrote out at (texts (answers b (lines p chunk))) out' wrote
  pub kept : take held buf' ≡ left p chunk
  pub short : held ≤ 1024
  pub long : length buf' ≡ 1024

-- ---- a whole input

-- what is written for an input that comes in these chunks
unfoldable pub replies : Bench → List ℕ → List (List ℕ) → List ℕ
replies b p [] = texts (answers b (last p))
replies b p (c ∷ cs) = texts (answers b (lines p c)) ++ replies (after_lines b (lines p c)) (left p c) cs
