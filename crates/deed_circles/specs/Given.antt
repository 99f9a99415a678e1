-- Members and touching handles as a caller gives them: words in slices. A word that is no packed handle names no node. Assumes nothing.
use Rattle.std.specs.Prelude.{ℕ, ◌+◌, ◌*◌, ◌/◌, ◌%◌, List, [], ◌∷◌, map, eqb, ltb, length, get_or}
use Rattle.bench_words.specs.Codec.{pick}
use Rattle.ledger_spec.specs.Bench.{Handle}
use Rattle.bench_views.specs.Given.{nowhere, hand_given}

abbrev pub hands_given : List ℕ → List Handle
hands_given ws = map hand_given ws

-- touching handles two by two; one that is left over goes with a handle that names no node
unfoldable pub pairs_given : List ℕ → List (Handle × Handle)
pairs_given [] = []
pairs_given (x ∷ []) = (hand_given x, nowhere) ∷ []
pairs_given (x ∷ (y ∷ ws)) = (hand_given x, hand_given y) ∷ pairs_given ws

-- ---- where they stand
abbrev pub spot_of : ℕ → ℕ
spot_of w = w % 8 * 64 + w / 8 % 64

-- the position of member i, and of the one after it, or 0
abbrev pub spot_at : List ℕ → ℕ → ℕ
spot_at ms i = spot_of (get_or ms i 0)

unfoldable pub next_spot : List ℕ → ℕ → ℕ
next_spot ms i = pick (ltb (i + 1) (length ms)) (spot_at ms (i + 1)) 0

-- a touching handle's word of member i, the first or the second
unfoldable pub touch_word : List ℕ → List ℕ → ℕ → ℕ → ℕ
touch_word ms ts i d = pick (eqb (length ts) 0) (get_or ms i 0) (get_or ts (i * 2 + d) 0)
