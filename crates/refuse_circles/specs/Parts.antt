-- The tests of add blossom in parts, each of which one function decides: of the lists alone, of the nodes that they name, of a handle given twice.
-- (Room for one more node is asked as for a defect.) Assumes nothing.
use Rattle.std.specs.Prelude.{ℕ, Bool, ◌&&◌, ◌||◌, not, List, [], ◌∷◌, ◌++◌, eqb, ltb, length}
use Rattle.ledger_spec.specs.Bench.{Handle, Bench}
use Rattle.ledger_spec.specs.Look.{node_named}
use Rattle.ledger_spec.specs.Tests.{any, empty, stale, foreign, has_parent, twice, both}

abbrev pub shape_tests : List Handle → List (Handle × Handle) → List (Bool × ℕ)
shape_tests hs ts = (empty hs || ltb 64 (length hs), 6) ∷ (not (empty ts) && not (eqb (length ts) (length hs)), 7) ∷ []

abbrev pub nodes_tests : Bench → ℕ → List Handle → List (Handle × Handle) → List (Bool × ℕ)
nodes_tests b u hs ts = (any (stale b) (hs ++ both ts), 8) ∷ (any (foreign b u) (hs ++ both ts), 9) ∷ (any (λ h. has_parent (node_named b h)) hs, 11) ∷ []

abbrev pub twice_tests : List Handle → List (Bool × ℕ)
twice_tests hs = (twice hs, 13) ∷ []
