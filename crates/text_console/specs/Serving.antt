-- What a session needs of the slices it works in, and what holds from piece to piece. Assumes nothing.
use Rattle.std.specs.Prelude.{ℕ, ◌*◌, ◌≤◌, ◌≡◌, List, length}
use Rattle.bench_views.specs.Fit.{SoundWords}
use Rattle.text_console.specs.declared.Next.{Next}
use Rattle.text_console.specs.declared.Next.TheVariants.{More, Ended, Failed}

pub record Ready (b piece buf : List ℕ) (held : ℕ) (serials out : List ℕ) : Type 0 where
  pub words : SoundWords b
  pub buffer : length buf ≡ 1024
  pub short : held ≤ 1024
  pub serial : 65 ≤ length serials
  pub room : 57 * length piece ≤ length out

abbrev pub held_by : Next → ℕ
held_by (More h fresh) = h
held_by Ended = 0
held_by Failed = 0

pub record Served (b : List ℕ) (r : Next) : Type 0 where
  pub words : SoundWords b
  pub short : held_by r ≤ 1024
