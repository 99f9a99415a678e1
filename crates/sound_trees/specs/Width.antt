-- W of an interface without a parent, by tops. Assumes nothing.
use Rattle.std.specs.Prelude.{ℕ, List, eqb}
use Rattle.bench_words.specs.Codec.{pick}
use Rattle.bench_words.specs.Store.{interface_at}
use Rattle.ledger_spec.specs.Look.{top}
use Rattle.bench_views.specs.View.{view}
use Rattle.sound_trees.specs.Below.{sum_to}

-- the progress of u, if it climbs to i
abbrev pub progress_under : List ℕ → ℕ → ℕ → ℕ
progress_under b i u = pick (eqb (top (view b) u) i) (interface_at b u).progress 0

unfoldable pub width_of : List ℕ → ℕ → ℕ
width_of b i = sum_to (progress_under b i) 8
