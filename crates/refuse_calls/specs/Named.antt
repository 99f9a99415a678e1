-- The tests that calls on a node have in common. Assumes nothing.
use Rattle.std.specs.Prelude.{ℕ, Bool, List, [], ◌∷◌}
use Rattle.ledger_spec.specs.Bench.{Handle, Bench}
use Rattle.ledger_spec.specs.Tests.{outside, child, stale, foreign}

unfoldable pub named_tests : Bench → ℕ → Handle → List (Bool × ℕ)
named_tests b u h = (outside u, 3) ∷ (child b u, 4) ∷ (stale b h, 8) ∷ (foreign b u h, 9) ∷ []
