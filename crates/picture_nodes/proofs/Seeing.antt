-- A slot's words show what the picture shows of it. Assumes nothing.
use Rattle.std.specs.Prelude.{None, Option, Some}
use Prim.Native.Nat.{ℕ, ◌+◌, ◌-◌, ◌/◌, ◌%◌, ◌*◌, ◌<◌}
use mathlib.Core.Path.{◌≡◌, refl, ap, sym, ◌∙◌, subst}
use mathlib.Core.Bool.{Bool, true, false}
use mathlib.Core.List.{List, [], ◌∷◌, map}
use native.Mathlib.Omega.{arith}
use lib.Dec.{eqb}
use lib.ListN.{get_or}
use Rattle.bench_words.specs.Codec.{pick, handle_of, parent_of}
use Rattle.bench_words.specs.Store.{node_at, interface_at}
use Rattle.bench_words.specs.declared.Node.{Node}
use Rattle.kinds.specs.declared.Class.TheVariants.{Absent, Blossom, Defect}
use Rattle.kinds.specs.declared.Handle.{Handle as Code}
use Rattle.kinds.specs.declared.Vertex.{Vertex}
use Rattle.ledger_spec.specs.Bench as plain
use Rattle.ledger_spec.specs.Bench.{Handle, Class, defect, blossom}
use Rattle.ledger_spec.specs.Bytes.{bytes}
use Rattle.ledger_spec.specs.Decimals.{decimal}
use Rattle.ledger_spec.specs.Named.{handle_named, state_named, parent_named}
use Rattle.ledger_spec.specs.Reads.{slots_of}
use Rattle.bench_views.specs.View.{view, slot_seen, node_seen, sum_up, circle_of}
use Rattle.bench_views.proofs.Views.{view_slot}
use Rattle.bench_views.proofs.Slots.{slot_absent, slot_defect, slot_ring}
use Rattle.bench_orders.specs.Order.{AtIndex}
use Rattle.bench_vertices.specs.Under.{Placed}
use Rattle.picture_spec.specs.Sketch.{vertex, circle, linked, shape_of, indexed, seen_of, index_of, slot_seen_by}
use Rattle.picture_spec.specs.Text.{parent_text}
use Rattle.picture_nodes.specs.Rest.{Lowly}

-- ---- a parent
module _ (at : Handle → ℕ) (p : Option Code) where
  pub parent_none : p ≡ None → 110 ∷ 117 ∷ 108 ∷ 108 ∷ [] ≡ parent_text (indexed at (parent_named p))
  unfolding parent_text bytes
  parent_none e = sym (ap (λ (q : Option Code). parent_text (indexed at (parent_named q))) e)

  pub parent_some : (h : Code) → p ≡ Some h → (i : ℕ) → i ≡ at (handle_named h) → decimal i ≡ parent_text (indexed at (parent_named p))
  unfolding parent_text
  parent_some h e i q = ap decimal q ∙ sym (ap (λ (x : Option Code). parent_text (indexed at (parent_named x))) e)

lowly_by : (t : Bool) (w : ℕ) → Lowly (pick t None (Some (handle_of w)))
lowly_by true w = tt
lowly_by false w = (omega arith, omega arith)

lowly : (w : ℕ) → Lowly (parent_of w)
lowly w = lowly_by (eqb w 0) (w - 1)

lowly_at : (b : List ℕ) (k : ℕ) → Lowly (node_at b k).parent
unfolding node_at
lowly_at b k = lowly (get_or b (128 + k * 12 + 4) 0)

pub parent_low : (b : List ℕ) (k : ℕ) (n : Node) → n ≡ node_at b k → Lowly n.parent
parent_low b k n e = subst (λ (x : Node). Lowly x.parent) (sym e) (lowly_at b k)

pub inside_low : (p : Option Code) (h : Code) → p ≡ Some h → Lowly p → Lowly (Some h)
inside_low p h e l = subst Lowly e l

-- ---- a slot, as the picture sees it
module _ (at : Handle → ℕ) where
  see_none : (x : Option plain.Node) → x ≡ None → seen_of at x ≡ None
  unfolding seen_of
  see_none x e = rw (e, seen_of)

  see_some : (x : Option plain.Node) (n : plain.Node) → x ≡ Some n → seen_of at x ≡ Some (record { shape = shape_of at n.class; state = n.state; parent = indexed at n.parent })
  unfolding seen_of
  see_some x n e = rw (e, seen_of)

  shape_defect : (v : ℕ) → shape_of at (defect v) ≡ vertex v
  unfolding shape_of
  shape_defect v = refl

  shape_ring : (ms : List plain.Member) → shape_of at (blossom ms) ≡ circle (map (linked at) ms)
  unfolding shape_of
  shape_ring ms = refl

module _ (b : List ℕ) (unit k p : ℕ) (I : AtIndex b unit k p) (x : Node) (e : x ≡ node_at b p) where
  abbrev here : ℕ × ℕ × Option plain.Node
  here = get_or (slots_of (view b) unit) k (0, 0, None)

  abbrev tree : Handle → ℕ
  tree = index_of (view b) unit

  split : p / 64 * 64 + p % 64 ≡ p
  split = omega arith

  seen : here.2 ≡ slot_seen x (sum_up 8 (interface_at b) (p / 64)) (circle_of (node_at b) p)
  seen = ap (λ (t : ℕ × ℕ × Option plain.Node). t.2) I.at ∙ view_slot (get_or b 0 0) (interface_at b) (node_at b) (p / 64) (p % 64) I.low I.used
      ∙ ap (λ (y : ℕ). slot_seen (node_at b y) (sum_up 8 (interface_at b) (p / 64)) (circle_of (node_at b) y)) split
      ∙ ap (λ (y : Node). slot_seen y (sum_up 8 (interface_at b) (p / 64)) (circle_of (node_at b) p)) (sym e)

  pub low_place : p < 512
  low_place = let l = I.low in omega arith

  pub seen_absent : x.class ≡ Absent → None ≡ slot_seen_by (view b) unit here
  seen_absent c = sym (see_none tree here.2 (seen ∙ slot_absent x (sum_up 8 (interface_at b) (p / 64)) (circle_of (node_at b) p) c))

  pub seen_defect : (v : Vertex) → x.class ≡ Defect v
      → Some (record { shape = vertex v.0; state = state_named x.state; parent = indexed tree (parent_named x.parent) }) ≡ slot_seen_by (view b) unit here
  seen_defect v c =
      let n = node_seen x (sum_up 8 (interface_at b) (p / 64)) (defect v.0) in
      sym (see_some tree here.2 n (seen ∙ slot_defect x (sum_up 8 (interface_at b) (p / 64)) (circle_of (node_at b) p) v c)
      ∙ ap (λ s. Some (record { shape = s; state = state_named x.state; parent = indexed tree (parent_named x.parent) })) (shape_defect tree v.0))

  pub seen_ring : x.class ≡ Blossom
      → Some (record { shape = circle (map (linked tree) (circle_of (node_at b) p)); state = state_named x.state; parent = indexed tree (parent_named x.parent) }) ≡ slot_seen_by (view b) unit here
  seen_ring c =
      let n = node_seen x (sum_up 8 (interface_at b) (p / 64)) (blossom (circle_of (node_at b) p)) in
      sym (see_some tree here.2 n (seen ∙ slot_ring x (sum_up 8 (interface_at b) (p / 64)) (circle_of (node_at b) p) c)
      ∙ ap (λ s. Some (record { shape = s; state = state_named x.state; parent = indexed tree (parent_named x.parent) })) (shape_ring tree (circle_of (node_at b) p)))

  pub ring_is : x.class ≡ Blossom → (node_at b p).class ≡ Blossom
  ring_is c = ap (λ (y : Node). y.class) (sym e) ∙ c

  pub ring_placed : x.class ≡ Blossom → Placed b p
  ring_placed c = record { low = low_place; used = I.used; present = λ z. let q : Absent ≡ Blossom = sym z ∙ ring_is c in let q2 : ◌≡◌ {A = ℕ} 0 1 = cc in omega arith }
