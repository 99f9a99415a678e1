-- The sound test and the sound bench are one: words pass exactly where they are the encoding of a bench that keeps every rule of "A sound
-- bench". Assumes nothing.
use Prim.Native.Nat.{ℕ}
use mathlib.Core.Path.{◌≡◌}
use mathlib.Core.Bool.{true}
use mathlib.Core.List.{List}
use lib.ListN.{length}
use Rattle.ledger_spec.proofs.Holds.{holds}
use Rattle.bench_views.specs.View.{view}
use Rattle.bench_views.specs.Fit.{SoundWords}
use Rattle.sound_bench.specs.Sound.{sound_words}
use Rattle.sound_bench.proofs.Parts.{parts, whole}
use Rattle.sound_bench.proofs.Canonical.{canon}
use Rattle.sound_bench.proofs.Tested.{facts}
use Rattle.sound_bench.proofs.Passing.{passing}

pub sound_says : (b : List ℕ) → length b ≡ 6273 → sound_words b ≡ true → SoundWords b
sound_says b len e = record { canon = canon b (parts b e) len; sound = holds (view b) (facts b (parts b e) len) }

pub sound_holds : (b : List ℕ) → SoundWords b → sound_words b ≡ true
sound_holds b Z = whole b (passing b Z)
