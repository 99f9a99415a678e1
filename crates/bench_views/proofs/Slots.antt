-- What a slot shows by its class, and a circle followed by one member or none: by the definitions. Assumes nothing.
use Rattle.std.specs.Prelude.{None, Some}
use Prim.Native.Nat.{ℕ, zero, suc, ◌-◌, ◌<◌}
use mathlib.Core.Path.{◌≡◌, sym, ap}
use mathlib.Core.List.{List, [], ◌∷◌}
use native.Mathlib.Omega.{arith}
use Rattle.kinds.specs.declared.Class.TheVariants.{Absent, Blossom, Defect}
use Rattle.kinds.specs.declared.Vertex.{Vertex}
use Rattle.bench_words.specs.declared.Node.{Node}
use Rattle.ledger_spec.specs.Bench.{Member, defect, blossom}
use Rattle.bench_views.specs.View.{member_at, follow, slot_seen, node_seen}

pub slot_absent : (n : Node) (t : ℕ) (ms : List Member) → n.class ≡ Absent → slot_seen n t ms ≡ None
unfolding slot_seen
slot_absent n t ms e = rw e

pub slot_defect : (n : Node) (t : ℕ) (ms : List Member) (v : Vertex) → n.class ≡ Defect v → slot_seen n t ms ≡ Some (node_seen n t (defect v.0))
unfolding slot_seen
slot_defect n t ms v e = rw e

pub slot_ring : (n : Node) (t : ℕ) (ms : List Member) → n.class ≡ Blossom → slot_seen n t ms ≡ Some (node_seen n t (blossom ms))
unfolding slot_seen
slot_ring n t ms e = rw e

pub follow_more : (A : ℕ → Node) (m p : ℕ) → 0 < m → follow m A p ≡ member_at A p ∷ follow (m - 1) A (A p).next
unfolding follow
follow_more A zero p l = absurd (omega arith)
follow_more A (suc m) p l = let e : suc m - 1 ≡ m = omega arith in ap (λ (x : ℕ). member_at A p ∷ follow x A (A p).next) (sym e)

pub follow_none : (A : ℕ → Node) (m p : ℕ) → m ≡ 0 → follow m A p ≡ []
unfolding follow
follow_none A m p e = ap (λ (x : ℕ). follow x A p) e
