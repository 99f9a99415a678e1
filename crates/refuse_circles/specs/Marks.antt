-- What the nodes that a list names are refused by, and the lower of two numbers, where 0 is none. Assumes nothing.
use Rattle.std.specs.Prelude.{ℕ, Bool, false, List, [], ◌∷◌, eqb, ltb}
use Rattle.bench_words.specs.Codec.{pick}
use Rattle.ledger_spec.specs.Bench.{Handle, Bench}
use Rattle.ledger_spec.specs.Look.{node_named}
use Rattle.ledger_spec.specs.Tests.{first, any, stale, foreign, has_parent}

-- STALE, FOREIGN, HAS_PARENT, in this order
unfoldable pub marks : Bool → Bool → Bool → ℕ
marks s f p = first ((s, 8) ∷ (f, 9) ∷ (p, 11) ∷ [])

-- of one node, and of all that a list names
abbrev pub node_mark : Bench → ℕ → Handle → ℕ
node_mark b u h = marks (stale b h) (foreign b u h) (has_parent (node_named b h))

abbrev pub list_mark : Bench → ℕ → List Handle → ℕ
list_mark b u hs = marks (any (stale b) hs) (any (foreign b u) hs) (any (λ h. has_parent (node_named b h)) hs)

-- a touching handle may be inside a blossom
abbrev pub touch_mark : Bench → ℕ → List Handle → ℕ
touch_mark b u hs = marks (any (stale b) hs) (any (foreign b u) hs) false

-- 0 is no number
unfoldable pub lower : ℕ → ℕ → ℕ
lower x y = pick (eqb x 0) y (pick (eqb y 0) x (pick (ltb y x) y x))
