-- What a circle's members are told, and what a walk along a circle asks of the words. Assumes nothing.
use Rattle.std.specs.Prelude.{ℕ, ◌<◌, ◌≤◌, List, map}
use Rattle.bench_words.specs.Store.{node_at}
use Rattle.ledger_spec.specs.Bench.{Handle, grows, stays}
use Rattle.ledger_spec.specs.Knit.{nodes}
use Rattle.ledger_spec.specs.Notices.{Notice, state_set}
use Rattle.bench_views.specs.Canon.{walk}
use Rattle.bench_views.specs.Given.{hand_given}
use Rattle.bench_views.specs.View.{follow}

-- the members that words give stay
abbrev pub staying : List ℕ → List Notice
staying ms = map (λ (w : ℕ). state_set (hand_given w) stays) ms

-- the first n members of the circle that begins at slot k grow
abbrev pub growing : List ℕ → ℕ → ℕ → List Notice
growing b k n = map (λ (g : Handle). state_set g grows) (nodes (follow n (node_at b) k))

-- at most 64 members, each at a slot
pub record Walked (b : List ℕ) (k n : ℕ) : Type 0 where
  pub few : n ≤ 64
  pub low : (i : ℕ) → i < n → walk i (node_at b) k < 512
