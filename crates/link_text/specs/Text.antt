-- What a line, a chunk and the input's end owe to a caller who lends any slices, and any words. Assumes nothing.
use Rattle.std.specs.Prelude.{ℕ, ◌/◌, ◌≡◌, true, false, List, [], ◌∷◌, ltb, length, take, pos}
use Rattle.ledger_spec.specs.Tests.{first}
use Rattle.ledger_spec.specs.Grammar.{line_of}
use Rattle.text_numbers.specs.declared.Reply.{Reply}
use Rattle.text_numbers.specs.Numbers.{numbers_of}
use Rattle.text_calls.specs.Turned.{Turned}
use Rattle.text_sessions.specs.Session.{ChunkDone, OpeningDone, Finished}
use Rattle.sound_bench.specs.Sound.{sound_words}

-- by lengths: more held than a line has; less room than 57 bytes for each of the chunk
unfoldable pub chunk_no : ℕ → ℕ → ℕ → ℕ
chunk_no held chunk room = first ((ltb 1024 held, 2) ∷ (ltb (room / 57) chunk, 19) ∷ [])

-- a chunk on sound words b, where the first bytes of buf are held; refused, everything is as it was
pub record ChunkBy (b chunk buf : List ℕ) (held : ℕ) (out b' buf' out' : List ℕ) (n held' wrote : ℕ) : Type 0 where
  pub number : n ≡ chunk_no held (length chunk) (length out)
  pub done : n ≡ 0 → ChunkDone b chunk (take held buf) out b' buf' out' held' wrote
  pub refused : (n ≡ 0 → ⊥) → (b' ≡ b) × (buf' ≡ buf) × (out' ≡ out) × (held' ≡ held) × (wrote ≡ 0)

-- the same on any words
pub record ChunkOn (b chunk buf : List ℕ) (held : ℕ) (out b' buf' out' : List ℕ) (n held' wrote : ℕ) : Type 0 where
  pub sound : sound_words b ≡ true → ChunkBy b chunk buf held out b' buf' out' n held' wrote
  pub broken : sound_words b ≡ false → (n ≡ 2) × (b' ≡ b) × (buf' ≡ buf) × (out' ≡ out) × (held' ≡ held) × (wrote ≡ 0)

-- a chunk that begins an input or goes on with its first line, on any words
pub record OpeningBy (b chunk buf : List ℕ) (held : ℕ) (out b' buf' out' : List ℕ) (n held' wrote : ℕ) : Type 0 where
  pub number : n ≡ chunk_no held (length chunk) (length out)
  pub done : n ≡ 0 → OpeningDone chunk (take held buf) out b' buf' out' held' wrote
  pub refused : (n ≡ 0 → ⊥) → (b' ≡ b) × (buf' ≡ buf) × (out' ≡ out) × (held' ≡ held) × (wrote ≡ 0)

-- a line on any words
pub record LineOn (b line : List ℕ) (r : Reply) (b' : List ℕ) : Type 0 where
  pub sound : sound_words b ≡ true → Turned b (line_of line) r b'
  pub broken : sound_words b ≡ false → (numbers_of r ≡ (2, 0, pos 0, pos 0)) × (b' ≡ b)

-- the input's end, at the front of a slice
pub record EndBy (held : ℕ) (out out' : List ℕ) (n wrote : ℕ) : Type 0 where
  pub number : n ≡ first ((ltb (length out) 57, 19) ∷ [])
  pub done : n ≡ 0 → Finished held out 0 out' wrote
  pub refused : (n ≡ 0 → ⊥) → (out' ≡ out) × (wrote ≡ 0)
