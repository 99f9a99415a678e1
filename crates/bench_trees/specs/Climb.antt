-- What climbing from an interface to the top of its tree finds. Assumes nothing.
use Rattle.std.specs.Prelude.{ℕ, ◌<◌, ◌≤◌, ◌≡◌, List}
use Rattle.bench_words.specs.Store.{interface_at}
use Rattle.ledger_spec.specs.Look.{climb}
use Rattle.bench_views.specs.View.{sum_up, view}

pub record Climbs (b : List ℕ) (u t sum : ℕ) : Type 0 where
  pub top : t ≡ climb 8 (view b) u
  pub low : t < 8
  pub total : sum ≡ sum_up 8 (interface_at b) u
  pub small : sum ≤ 8796093022208
