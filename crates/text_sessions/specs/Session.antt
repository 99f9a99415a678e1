-- What a session owes for a line, for a chunk and for the input's end, on words. Assumes nothing.
use Rattle.std.specs.Prelude.{ℕ, ◌+◌, ◌*◌, ◌≤◌, ◌≡◌, Bool, true, false, List, length, drop}
use Rattle.text_decimals.specs.Wrote.{Wrote}
use Rattle.ledger_spec.specs.Bench.{Bench, set_up}
use Rattle.ledger_spec.specs.Grammar.{line_of}
use Rattle.ledger_spec.specs.Opening.{opening}
use Rattle.ledger_spec.specs.Program.{answers, texts, program, program_leaves}
use Rattle.text_chunks.specs.Chunks.{last}
use Rattle.text_chunks.specs.Answering.{LineAnswered, ChunkAnswered}
use Rattle.text_chunks.specs.Opening.{FirstAnswered, OpeningAnswered}
use Rattle.bench_views.specs.View.{view}
use Rattle.bench_views.specs.Fit.{SoundWords}

-- the empty bench, first serial 1
pub record Started (b : List ℕ) : Type 0 where
  pub words : SoundWords b
  pub seen : view b ≡ set_up 1

pub record LineDone (b line b' out : List ℕ) (at : ℕ) (out' : List ℕ) (r : ℕ) : Type 0 where
  pub words : SoundWords b'
  pub answered : LineAnswered (view b) (line_of line) (view b') out at out' r

-- what is left of a chunk from a byte on, at a place of the output
pub record RestDone (b chunk : List ℕ) (from : ℕ) (p out : List ℕ) (at : ℕ) (b' buf' out' : List ℕ) (held wrote : ℕ) : Type 0 where
  pub words : SoundWords b'
  pub answered : ChunkAnswered (view b) (drop from chunk) p out at (view b') buf' out' held wrote
  pub few : wrote ≤ 57 * length chunk

pub record ChunkDone (b chunk p out b' buf' out' : List ℕ) (held wrote : ℕ) : Type 0 where
  pub words : SoundWords b'
  pub answered : ChunkAnswered (view b) chunk p out 0 (view b') buf' out' held wrote
  pub few : wrote ≤ 57 * length chunk

-- ---- an input's beginning, from any words

-- its first line
pub record FirstDone (line b' out out' : List ℕ) (r : ℕ) : Type 0 where
  pub words : SoundWords b'
  pub answered : FirstAnswered (opening line) (view b') out out' r

-- a chunk, where p is held of the first line
pub record OpeningDone (chunk p out b' buf' out' : List ℕ) (held wrote : ℕ) : Type 0 where
  pub words : SoundWords b'
  pub answered : OpeningAnswered chunk p out (view b') buf' out' held wrote
  pub few : wrote ≤ 57 * length chunk

-- a chunk in turn: it may end the first line, or that is past
pub record NextDone (opens : Bool) (b chunk p out b' buf' out' : List ℕ) (held wrote : ℕ) : Type 0 where
  pub first : opens ≡ true → OpeningDone chunk p out b' buf' out' held wrote
  pub later : opens ≡ false → ChunkDone b chunk p out b' buf' out' held wrote

-- ---- its end

-- whatever the bench is, and whatever the bytes are that are held
pub record Finished (held : ℕ) (out : List ℕ) (at : ℕ) (out' : List ℕ) (r : ℕ) : Type 0 where
  pub text : (b : Bench) (p : List ℕ) → length p ≡ held → Wrote out at (texts (answers b (last p))) out' r
  pub few : r ≤ at + 57

-- a whole input: its answers, and the bench after it
pub record AllDone (input out b' out' : List ℕ) (r : ℕ) : Type 0 where
  pub text : Wrote out 0 (program input) out' r
  pub words : SoundWords b'
  pub seen : view b' ≡ program_leaves input
