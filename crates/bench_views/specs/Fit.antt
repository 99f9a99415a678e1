-- What a call on lent words may rely on, and what it owes: words that encode a sound bench, and words whose view is the bench that the ledger says.
-- Assumes nothing.
use Rattle.std.specs.Prelude.{ℕ, ◌<◌, ◌≤◌, ◌≡◌, true, List, length, get_or, nat_abs, None, Some}
use Rattle.ledger_spec.specs.Bench.{Member, blossom, Bench}
use Rattle.ledger_spec.specs.Bench as plain
use Rattle.ledger_spec.specs.Look.{interface, slot_of}
use Rattle.ledger_spec.specs.Sound.{sound}
use Rattle.ledger_spec.specs.Frame.{Frame}
use Rattle.ledger_spec.specs.Knit.{Sewn}
use Rattle.ledger_spec.specs.Facts.{Sound}
use Rattle.bench_views.specs.View.{view}
use Rattle.bench_views.specs.Canon.{Canon, Within}

-- the words are the encoding of a bench that keeps every rule of "A sound bench"
pub record SoundWords (b : List ℕ) : Type 0 where
  pub canon : Canon b
  pub sound : sound (view b) ≡ true

-- the words after a call: canonical, and their view is `after`
pub record Done (b : List ℕ) (after : Bench) : Type 0 where
  pub canon : Canon b
  pub seen : view b ≡ after

-- what the work of a call needs of sound words, spelled out
pub record Fit (b : List ℕ) : Type 0 where
  pub canon : Canon b
  pub facts : Sound (view b)
  pub frame : Frame (view b)
  pub sewn : Sewn (view b)
  pub within : Within (view b)
  pub begun : 1 ≤ get_or b 0 0
  pub next : get_or b 0 0 ≤ 4294967296
  pub speed : (u : ℕ) → u < 8 → (interface (view b) u).parent ≡ None → nat_abs (interface (view b) u).speed ≤ 512
  pub sum : (u : ℕ) → u < 8 → (interface (view b) u).parent ≡ None → nat_abs (interface (view b) u).sum ≤ 4503599627370496
  pub size : (u s : ℕ) (n : plain.Node) → slot_of (view b) u s ≡ Some n → n.size ≤ 512
  pub circle : (u s : ℕ) (n : plain.Node) (ms : List Member) → slot_of (view b) u s ≡ Some n → n.class ≡ blossom ms → (1 ≤ length ms) × (length ms ≤ 64)
