-- The loop follows the circle's links from the blossom's first member, and tells each member to grow. Assumes nothing.
use mathlib.Core.Path.{◌≡◌}
use mathlib.Core.List.{[], ◌∷◌}
use Rattle.bench_words.specs.Store.{node_at}
use Rattle.bench_views.specs.Canon.{walk}
use Rattle.outcome_notices.proofs.Telling.{halfway, head, past}
use Rattle.outcome_notices.proofs.expand.Given as goal

abbrev pub invariant-loop-i : goal.invariant-loop-i
invariant-loop-i l = (l.at ≡ walk l.i (node_at l.b) l.initial.at) × (l.r ≡ halfway (head l.initial.r ∷ past (node_at l.b) l.initial.at l.i) [])
