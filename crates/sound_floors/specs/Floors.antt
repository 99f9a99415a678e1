-- The test of floors, off the words: an interface bears its parent's mark, and in one that is floored no node has a value below zero. Assumes nothing.
use Rattle.std.specs.Prelude.{Option, ℕ, ◌+◌, ◌*◌, Bool, true, not, ◌&&◌, ◌||◌, List, leb}
use Rattle.kinds.specs.declared.GrowState.{GrowState}
use Rattle.bench_words.specs.Codec.{value_offset}
use Rattle.bench_words.specs.Store.{node_at, interface_at}
use Rattle.bench_words.specs.declared.Node.{Node}
use Rattle.bench_words.specs.declared.Interface.{Interface}
use Rattle.ledger_spec.specs.Tests.{same}
use Rattle.bench_views.specs.View.{value_by, by_class, over, sum_up}
use Rattle.sound_trees.specs.Below.{all_to}

-- a value of zero or more, at T = t
abbrev pub high_test : GrowState → ℕ → ℕ → Bool
high_test g bias t = leb value_offset (value_by g bias t)

unfoldable pub afloat_test : Node → ℕ → Bool
afloat_test n t = by_class n.class true (high_test n.state n.bias t) (λ v. high_test n.state n.bias t)

-- floored as its parent is, if it has one
abbrev pub level_test : (ℕ → Interface) → Option ℕ → Bool → Bool
level_test U p c = over p true (λ q. same c (U q).marks.floored)

abbrev pub slot_afloat : List ℕ → ℕ → ℕ → ℕ → Bool
slot_afloat b u t s = afloat_test (node_at b (u * 64 + s)) t

unfoldable pub floor_test : List ℕ → ℕ → Bool
floor_test b u =
    level_test (interface_at b) (interface_at b u).parent (interface_at b u).marks.floored
    && (not (interface_at b u).marks.floored || all_to (slot_afloat b u (sum_up 8 (interface_at b) u)) (interface_at b u).used)
