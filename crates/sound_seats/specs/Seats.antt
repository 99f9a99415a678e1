-- The tests of a node's parent and place. Assumes nothing.
use Rattle.std.specs.Prelude.{None, Option, Some, ℕ, ◌+◌, ◌*◌, Bool, true, false, ◌&&◌, List, eqb, leb, ltb}
use Rattle.kinds.specs.Names.{same_code, no_code}
use Rattle.kinds.specs.States.{blossom_of}
use Rattle.kinds.specs.declared.GrowState.{GrowState}
use Rattle.kinds.specs.declared.GrowState.TheVariants.{Grow, Stay, Shrink}
use Rattle.kinds.specs.declared.Handle.{Handle}
use Rattle.bench_words.specs.Store.{node_at}
use Rattle.bench_words.specs.declared.Node.{Node}
use Rattle.ledger_spec.specs.Look.{climb}
use Rattle.bench_views.specs.View.{view}
use Rattle.bench_views.specs.Canon.{walk}

abbrev pub is_stay : GrowState → Bool
is_stay Grow = false
is_stay Stay = true
is_stay Shrink = false

-- a node outside any circle has no place and touches nothing
unfoldable pub alone_test : Node → Bool
alone_test n = (eqb n.place 0 && eqb n.next 0) && (same_code n.left no_code && same_code n.right no_code)

-- the node n at position k, under the top t, has its place in the circle of m, which q names
unfoldable pub seat_in : List ℕ → ℕ → ℕ → Node → Handle → Node → Bool
seat_in b k t n q m = leb m.count 64
    && (ltb n.place m.count
    && ((is_stay n.state && ltb n.serial.0 q.serial.0)
    && ((eqb m.serial.0 q.serial.0 && blossom_of m.class) && (eqb (climb 8 (view b) q.unit) t && eqb (walk n.place (node_at b) m.first) k))))

abbrev pub seat_test : List ℕ → ℕ → ℕ → Node → Handle → Bool
seat_test b k t n q = seat_in b k t n q (node_at b (q.unit * 64 + q.slot))

abbrev pub by_parent : {A : Type 0} → Option Handle → A → (Handle → A) → A
by_parent None a f = a
by_parent (Some q) a f = f q

unfoldable pub parent_test : List ℕ → ℕ → ℕ → Node → Bool
parent_test b k t n = by_parent n.parent (alone_test n) (seat_test b k t n)
