-- When a word given to a call names what a serial in a line names. Assumes nothing.
use Rattle.std.specs.Prelude.{ℕ, ◌<◌, ◌≡◌, ◌⊎◌, List, length, get_or, None}
use Rattle.ledger_spec.specs.Bench.{Bench}
use Rattle.ledger_spec.specs.Look.{node_named}
use Rattle.ledger_spec.specs.Lines.{named}
use Rattle.bench_views.specs.Given.{hand_given}

-- the word w gives the handle of the present node with serial k; where there is none, it names no node either
abbrev pub Names : Bench → ℕ → ℕ → Type 0
Names b k w = (hand_given w ≡ named b k) ⊎ ((node_named b (hand_given w) ≡ None) × (node_named b (named b k) ≡ None))

-- the first n words name what the first n serials name
pub record AllNamed (b : Bench) (n : ℕ) (ks ws : List ℕ) : Type 0 where
  pub long : length ws ≡ length ks
  pub each : (i : ℕ) → i < n → Names b (get_or ks i 0) (get_or ws i 0)
