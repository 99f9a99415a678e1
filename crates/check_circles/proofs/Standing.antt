-- A member in words is the ledger's: a defect by its own handle, a blossom by the larger verdict of its two handles. Assumes nothing.
use Prim.Native.Nat.{ℕ, ◌/◌, ◌%◌}
use mathlib.Core.Path.{◌≡◌, ap, sym, ◌∙◌}
use mathlib.Core.Bool.{Bool, true, false}
use mathlib.Core.List.{List}
use Rattle.bench_words.specs.Store.{node_at, interface_at}
use Rattle.bench_words.specs.declared.Node.{Node}
use Rattle.kinds.specs.declared.Class.TheVariants.{Blossom, Defect}
use Rattle.kinds.specs.declared.Vertex.{Vertex}
use Rattle.ledger_spec.specs.Bench.{Handle, Member}
use Rattle.ledger_spec.specs.Named.{handle_named}
use Rattle.ledger_spec.specs.Tests.{is_defect}
use Rattle.ledger_spec.specs.Walk.{outermost}
use Rattle.bench_views.specs.View.{view, handle_at, member_at, circle_of, slot_seen, sum_up}
use Rattle.bench_views.specs.Fit.{Fit}
use Rattle.bench_vertices.specs.Under.{Placed}
use Rattle.bench_vertices.proofs.Circling.{shown}
use Rattle.check_circles.specs.Found.{larger, own_by, touch_by, member_by}
use Rattle.check_circles.proofs.Touching.{member_own, member_larger}

defect_seen : (n : Node) (t : ℕ) (ms : List Member) (v : Vertex) → n.class ≡ Defect v → is_defect (slot_seen n t ms) ≡ true
unfolding slot_seen
defect_seen n t ms v e = rw e

ring_seen : (n : Node) (t : ℕ) (ms : List Member) → n.class ≡ Blossom → is_defect (slot_seen n t ms) ≡ false
unfolding slot_seen
ring_seen n t ms e = rw e

module _ (b : List ℕ) (F : Fit b) (k : ℕ) (P : Placed b k) (n : Node) (e : n ≡ node_at b k) (s : Bool) where
  abbrev own : Node → Handle
  own x = record { unit = k / 64; slot = k % 64; serial = x.serial.0 }

  pub stands_defect : (v : Vertex) → n.class ≡ Defect v → own_by s (own n) (handle_named n.left) (handle_named n.right) ≡ member_by s (view b) (member_at (node_at b) k)
  stands_defect v c = ap (λ (x : Node). own_by s (own x) (handle_named x.left) (handle_named x.right)) e
      ∙ member_own (view b) (member_at (node_at b) k) (ap is_defect (shown b F k P) ∙ defect_seen (node_at b k) (sum_up 8 (interface_at b) (k / 64)) (circle_of (node_at b) k) v (sym (ap (λ (x : Node). x.class) e) ∙ c)) s

  pub stands_ring : n.class ≡ Blossom → (o : Handle) → o ≡ outermost (view b) (handle_at (node_at b) k)
      → larger (touch_by s (view b) (handle_at (node_at b) k) o (handle_named n.left)) (touch_by s (view b) (handle_at (node_at b) k) o (handle_named n.right)) ≡ member_by s (view b) (member_at (node_at b) k)
  stands_ring c o q = ap (λ (x : Node). larger (touch_by s (view b) (handle_at (node_at b) k) o (handle_named x.left)) (touch_by s (view b) (handle_at (node_at b) k) o (handle_named x.right))) e
      ∙ member_larger (view b) (member_at (node_at b) k) (ap is_defect (shown b F k P) ∙ ring_seen (node_at b k) (sum_up 8 (interface_at b) (k / 64)) (circle_of (node_at b) k) (sym (ap (λ (x : Node). x.class) e) ∙ c)) s o q
