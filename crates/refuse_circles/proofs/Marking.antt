-- What one word's node is refused by, at what was found of it: stale where none stands, and else foreign by its tree's top, and inside a blossom by
-- its record. Assumes nothing.
use Rattle.std.specs.Option.{is_some as some}
use Rattle.std.specs.Prelude.{None, Option, Some}
use Prim.Native.Nat.{ℕ, ◌/◌}
use mathlib.Core.Path.{◌≡◌, refl, sym, ◌∙◌, ap}
use mathlib.Core.Bool.{Bool, true, false, not}
use mathlib.Core.List.{List}
use native.Mathlib.Omega.{arith}
use borrow.Author.Tests.{eq-eqb}
use lib.Dec.{eqb}
use Rattle.kinds.specs.declared.Handle.{Handle as Packed}
use Rattle.bench_words.specs.Store.{node_at, interface_at}
use Rattle.bench_words.specs.declared.Node.{Node}
use Rattle.ledger_spec.specs.Bench.{Handle}
use Rattle.ledger_spec.specs.Bench as plain
use Rattle.ledger_spec.specs.Look.{interface, top, node_named}
use Rattle.ledger_spec.specs.Named.{parent_named}
use Rattle.ledger_spec.specs.Tests.{first, is_some, stale, foreign, has_parent}
use Rattle.ledger_spec.proofs.Tops.{climb_none}
use Rattle.bench_views.specs.View.{view, sum_up, circle_of, node_seen}
use Rattle.bench_views.proofs.Rings.{slot_held}
use Rattle.bench_links.proofs.Finding.{found_at, found_none}
use Rattle.bench_links.specs.Find.{spot, Held, Finds}
use Rattle.bench_views.specs.Given.{hand_given}
use Rattle.refuse_circles.specs.Marks.{marks, node_mark}

-- ---- what a word was found to name
module _ (b : List ℕ) (w : ℕ) (r : Option ℕ) (f : Finds b (hand_given w) r) where
  pub word_at : (k : ℕ) → r ≡ Some k → Held b (hand_given w) k
  unfolding hand_given
  word_at k e = found_at b (hand_given w) f k e

  pub word_none : r ≡ None → node_named (view b) (hand_given w) ≡ None
  unfolding hand_given
  word_none e = found_none b (hand_given w) f e

-- ---- its number
marks_8 : (s f p : Bool) → s ≡ true → marks s f p ≡ 8
unfolding marks first
marks_8 s f p e = rw e

marks_9 : (s f p : Bool) → s ≡ false → f ≡ true → marks s f p ≡ 9
unfolding marks first
marks_9 s f p e g = rw (e, g)

marks_11 : (s f p : Bool) → s ≡ false → f ≡ false → p ≡ true → marks s f p ≡ 11
unfolding marks first
marks_11 s f p e g h = rw (e, g, h)

marks_0 : (s f p : Bool) → s ≡ false → f ≡ false → p ≡ false → marks s f p ≡ 0
unfolding marks first
marks_0 s f p e g h = rw (e, g, h)

parent_some : (p : Option Packed) → is_some (parent_named p) ≡ some p
parent_some None = refl
parent_some (Some q) = refl

module _ (b : List ℕ) (u : ℕ) (h : Handle) where
  pub mark_stale : node_named (view b) h ≡ None → 8 ≡ node_mark (view b) u h
  mark_stale e = sym (marks_8 (stale (view b) h) (foreign (view b) u h) (has_parent (node_named (view b) h)) (ap (λ (o : Option plain.Node). not (is_some o)) e))

  module _ (k : ℕ) (H : Held b h k) where
    pub held_unit : h.unit ≡ k / 64
    held_unit = let S = H.stands in omega (arith, H.place, S.low)

    held_node : node_named (view b) h ≡ Some (node_seen (node_at b (spot h)) (sum_up 8 (interface_at b) h.unit) (slot_held (node_at b (spot h)) (sum_up 8 (interface_at b) h.unit) (circle_of (node_at b) (spot h)) H.stands.present).0)
    held_node = H.stands.seen ∙ (slot_held (node_at b (spot h)) (sum_up 8 (interface_at b) h.unit) (circle_of (node_at b) (spot h)) H.stands.present).1

    held_fresh : stale (view b) h ≡ false
    held_fresh = ap (λ (o : Option plain.Node). not (is_some o)) held_node

    held_parent : has_parent (node_named (view b) h) ≡ is_some (parent_named (node_at b k).parent)
    held_parent = ap has_parent held_node ∙ ap (λ (j : ℕ). is_some (parent_named (node_at b j).parent)) (sym H.place)

    module _ (far : Bool) (e : far ≡ not (eqb (top (view b) (k / 64)) u)) where
      held_far : foreign (view b) u h ≡ far
      held_far = ap (λ (v : ℕ). not (eqb (top (view b) v) u)) held_unit ∙ sym e

      pub mark_foreign : far ≡ true → 9 ≡ node_mark (view b) u h
      mark_foreign t = sym (marks_9 (stale (view b) h) (foreign (view b) u h) (has_parent (node_named (view b) h)) held_fresh (held_far ∙ t))

      module _ (near : far ≡ false) (n : Node) (f : n ≡ node_at b k) where
        held_given : has_parent (node_named (view b) h) ≡ some n.parent
        held_given = held_parent ∙ ap (λ (x : Node). is_some (parent_named x.parent)) (sym f) ∙ parent_some n.parent

        pub mark_inside : some n.parent ≡ true → 11 ≡ node_mark (view b) u h
        mark_inside g = sym (marks_11 (stale (view b) h) (foreign (view b) u h) (has_parent (node_named (view b) h)) held_fresh (held_far ∙ near) (held_given ∙ g))

        pub mark_free : some n.parent ≡ false → 0 ≡ node_mark (view b) u h
        mark_free g = sym (marks_0 (stale (view b) h) (foreign (view b) u h) (has_parent (node_named (view b) h)) held_fresh (held_far ∙ near) (held_given ∙ g))

-- ---- an interface's tree
module _ (b : plain.Bench) (u : ℕ) (free : (interface b u).parent ≡ None) where
  pub near_own : (v : ℕ) → v ≡ u → false ≡ not (eqb (top b v) u)
  near_own v e = sym (ap not (eq-eqb (top b v) u (ap (top b) e ∙ climb_none 8 b u free)))
