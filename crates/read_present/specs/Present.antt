-- The present nodes of a tree, over the plain ledger's own slots: how many there are, and the next one at or after an index. Assumes nothing.
use Rattle.std.specs.Prelude.{ℕ, suc, ◌+◌, List, [], ◌∷◌, leb, None, Option, Some}
use Rattle.bench_words.specs.Codec.{pick}
use Rattle.ledger_spec.specs.Bench.{Handle, Node, Bench}
use Rattle.ledger_spec.specs.Tests.{first}
use Rattle.ledger_spec.specs.Refuse.{unit_tests}
use Rattle.ledger_spec.specs.Reads.{said, slots_of, as_handle, index_tests}
use Rattle.ledger_spec.specs.Answers.{Read}

-- how many of the slots hold a node
abbrev pub one : Option Node → ℕ
one None = 0
one (Some n) = 1

unfoldable pub present_in : List (ℕ × ℕ × Option Node) → ℕ
present_in [] = 0
present_in (x ∷ xs) = one x.2 + present_in xs

-- a handle at index i, if there is one, and else what follows
abbrev pub or_else : Option Handle → ℕ → ℕ × Option Handle → ℕ × Option Handle
or_else None i r = r
or_else (Some h) i r = (i, Some h)

-- of slots whose first has index i: the first of index k or more that holds a node, with its index; 0 and nothing where none does
unfoldable pub next_from : ℕ → ℕ → List (ℕ × ℕ × Option Node) → ℕ × Option Handle
next_from i k [] = (0, None)
next_from i k (x ∷ xs) = or_else (pick (leb k i) (as_handle x) None) i (next_from (suc i) k xs)

-- ---- the reads: refused as a read of an interface is, the second by RANGE too, at the count and past it

unfoldable pub present_of : Bench → ℕ → ℕ × ℕ
present_of b u = said (first (unit_tests b u)) (present_in (slots_of b u)) 0

unfoldable pub next_of : Bench → ℕ → ℕ → ℕ × (ℕ × Option Handle)
next_of b u k = said (first (index_tests b u k)) (next_from 0 k (slots_of b u)) (0, None)

abbrev pub present_read : Bench → ℕ → Read ℕ
present_read b u = record { own = present_of b u; zero = 0 }

abbrev pub next_read : Bench → ℕ → ℕ → Read (ℕ × Option Handle)
next_read b u k = record { own = next_of b u k; zero = (0, None) }
