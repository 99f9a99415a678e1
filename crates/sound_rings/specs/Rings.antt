-- The tests of a node's class and circle. Assumes nothing.
use Rattle.std.specs.Prelude.{None, Option, Some, ℕ, Bool, false, not, ◌&&◌, eqb, leb, ltb}
use Rattle.kinds.specs.Names.{same_code}
use Rattle.kinds.specs.declared.Handle.{Handle}
use Rattle.bench_words.specs.declared.Node.{Node}
use Rattle.bench_views.specs.View.{by_class}
use Rattle.bench_views.specs.Canon.{walk}
use Rattle.sound_trees.specs.Below.{all_to, sum_to}

abbrev pub is_inside : Option Handle → Handle → Bool
is_inside None h = false
is_inside (Some q) h = same_code q h

-- m links back to the blossom h from place i
unfoldable pub member_of : Node → Handle → ℕ → ℕ → Bool
member_of m h i next = is_inside m.parent h && (eqb m.place i && (leb m.size 512 && (ltb m.left.serial.0 next && ltb m.right.serial.0 next)))

-- the i-th node of the circle that starts at `first`
unfoldable pub member_test : (ℕ → Node) → ℕ → Handle → ℕ → ℕ → Bool
member_test A next h first i = ltb (walk i A first) 512 && member_of (A (walk i A first)) h i next

abbrev pub size_in : (ℕ → Node) → ℕ → ℕ → ℕ
size_in A first i = (A (walk i A first)).size

-- the circle of the blossom h, which is n
unfoldable pub ring_test : (ℕ → Node) → ℕ → Handle → Node → Bool
ring_test A next h n = not (eqb n.count 0)
    && (leb n.count 64
    && (all_to (member_test A next h n.first) n.count && (eqb n.size (sum_to (size_in A n.first) n.count) && eqb (walk n.count A n.first) 0)))

unfoldable pub class_test : (ℕ → Node) → ℕ → Handle → Node → Bool
class_test A next h n = by_class n.class false (ring_test A next h n) (λ v. eqb n.size 1 && (eqb n.first 0 && eqb n.count 0))
