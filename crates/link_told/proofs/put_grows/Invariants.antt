-- The loop follows the circle's links, and tells a member a turn to grow. Assumes nothing.
use mathlib.Core.Path.{◌≡◌}
use lib.Seq.{sets}
use Rattle.bench_words.specs.Store.{node_at}
use Rattle.bench_views.specs.Canon.{walk}
use Rattle.link_told.specs.Answers.{told_words}
use Rattle.link_told.specs.Circles.{growing}
use Rattle.link_told.proofs.put_grows.Given as goal

abbrev pub invariant-loop-i : goal.invariant-loop-i
invariant-loop-i l = (l.at ≡ walk l.i (node_at l.b) l.first) × (l.out ≡ sets l.initial.out 5 (told_words (growing l.b l.first l.i)))
