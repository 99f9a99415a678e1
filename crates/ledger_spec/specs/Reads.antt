-- What a bench can be asked of its interfaces and nodes: a number and, where that is 0, a value (on a sound bench: Answers.antt has BROKEN).
-- A read of an interface answers 3 or 4 as a call does, a read of a node 8. Assumes nothing.
use Rattle.std.specs.Prelude.{ℕ, zero, suc, Bool, false, not, ◌&&◌, List, [], ◌∷◌, ◌++◌, length, get_or, leb, ℤ, pos, None, Option, Some}
use Rattle.ledger_spec.specs.Numbers.{UNIT, CHILD, STALE, RANGE}
use Rattle.ledger_spec.specs.Bench.{Handle, Node, Bench}
use Rattle.ledger_spec.specs.Look.{interface, node_named, tree}
use Rattle.ledger_spec.specs.Change.{worth}
use Rattle.ledger_spec.specs.Tests.{first, outside, child, stale, foreign, floored}
use Rattle.ledger_spec.specs.Refuse.{unit_tests}

-- a value, or what stands for it where the number is not 0
unfoldable pub said : {A : Type 0} → ℕ → A → A → ℕ × A
said zero v z = (0, v)
said (suc k) v z = (suc k, z)

-- the slots of a tree, in the order of the index, each with its place
unfoldable pub slots_from : ℕ → ℕ → List (Option Node) → List (ℕ × ℕ × Option Node)
slots_from u k [] = []
slots_from u k (x ∷ xs) = (u, k, x) ∷ slots_from u (suc k) xs

unfoldable pub gather : Bench → List ℕ → List (ℕ × ℕ × Option Node)
gather b [] = []
gather b (u ∷ us) = slots_from u 0 (interface b u).slots ++ gather b us

abbrev pub slots_of : Bench → ℕ → List (ℕ × ℕ × Option Node)
slots_of b u = gather b (tree 8 b u)

abbrev pub as_handle : ℕ × ℕ × Option Node → Option Handle
as_handle t = elim t.2 [ None ↦ None | Some n ↦ Some (record { unit = t.0; slot = t.1; serial = n.serial }) ]

-- ---- interfaces

unfoldable pub sum_of : Bench → ℕ → ℕ × ℤ
sum_of b u = said (first (unit_tests b u)) (interface b u).sum (pos 0)

unfoldable pub speed_of : Bench → ℕ → ℕ × ℤ
speed_of b u = said (first (unit_tests b u)) (interface b u).speed (pos 0)

unfoldable pub count_of : Bench → ℕ → ℕ × ℕ
count_of b u = said (first (unit_tests b u)) (length (slots_of b u)) 0

-- whether an interface gives a new node its lowest empty slot
unfoldable pub fills_of : Bench → ℕ → ℕ × Bool
fills_of b u = said (first (unit_tests b u)) (interface b u).marks.fills false

-- whether no value of its tree may fall below 0
unfoldable pub floored_of : Bench → ℕ → ℕ × Bool
floored_of b u = said (first (unit_tests b u)) (floored b u) false

unfoldable pub index_tests : Bench → ℕ → ℕ → List (Bool × ℕ)
index_tests b u k = (outside u, UNIT) ∷ (child b u, CHILD) ∷ (leb (length (slots_of b u)) k, RANGE) ∷ []

-- index to handle, or nothing where the slot was emptied
unfoldable pub handle_at_index : Bench → ℕ → ℕ → ℕ × Option Handle
handle_at_index b u k = said (first (index_tests b u k)) (as_handle (get_or (slots_of b u) k (0, 0, None))) None

-- ---- nodes

unfoldable pub node_tests : Bench → Handle → List (Bool × ℕ)
node_tests b h = (stale b h, STALE) ∷ []

unfoldable pub value_of : Bench → Handle → ℕ × ℤ
value_of b h = said (first (node_tests b h)) (worth (node_named b h)) (pos 0)

-- whether a node stands in an interface's tree: no in place of 8 and 9
unfoldable pub belongs : Bench → ℕ → Handle → ℕ × Bool
belongs b u h = said (first (unit_tests b u)) (not (stale b h) && not (foreign b u h)) false
