-- Room for one more node, as add defect and add blossom ask for it, after all else. Assumes nothing.
use Rattle.std.specs.Prelude.{ℕ, Bool, List, [], ◌∷◌}
use Rattle.ledger_spec.specs.Bench.{Bench}
use Rattle.ledger_spec.specs.Tests.{full, worn}

abbrev pub room_tests : Bench → ℕ → List (Bool × ℕ)
room_tests b u = (full b u, 14) ∷ (worn b, 15) ∷ []
