-- The walk along a circle: one turn is one step of the definition, and every way out is a test that holds or fails. Assumes nothing.
use Rattle.std.specs.Prelude.{Option, Some}
use Prim.Native.Nat.{ℕ, ◌+◌, ◌*◌, ◌<◌, ◌≤◌}
use mathlib.Core.Path.{◌≡◌, refl, sym, ◌∙◌, ap, ap₂}
use mathlib.Core.Bool.{Bool, true, false, ◌&&◌}
use native.Mathlib.Numerals.{add-one}
use native.Mathlib.Omega.{arith}
use lib.Dec.{eqb, leb, ltb}
use borrow.Author.Tests.{eq-eqb, ne_eqb, le-leb, lt-leb, lt-ltb, le-ltb, leb-true}
use Rattle.kinds.specs.declared.Class.TheVariants.{Absent, Blossom, Defect}
use Rattle.kinds.specs.declared.Handle.{Handle}
use Rattle.kinds.specs.declared.Vertex.{Vertex}
use Rattle.bench_words.specs.declared.Node.{Node}
use Rattle.ledger_spec.proofs.Lists.{and_true}
use Rattle.bench_views.specs.Canon.{walk}
use Rattle.sound_trees.specs.Below.{all_to, sum_to}
use Rattle.sound_trees.proofs.Belows.{all_none, all_more, all_not, sum_none, sum_more}
use Rattle.sound_rings.specs.Rings.{is_inside, member_of, member_test, size_in, ring_test, class_test}

pub member_row : (m : Node) (h : Handle) (i next : ℕ) (t : Bool) → t ≡ is_inside m.parent h
    → (t && (eqb m.place i && (leb m.size 512 && (ltb m.left.serial.0 next && ltb m.right.serial.0 next)))) ≡ member_of m h i next
unfolding member_of
member_row m h i next t e = ap (λ (x : Bool). x && (eqb m.place i && (leb m.size 512 && (ltb m.left.serial.0 next && ltb m.right.serial.0 next)))) e

member_size : (m : Node) (h : Handle) (i next : ℕ) → member_of m h i next ≡ true → m.size ≤ 512
unfolding member_of
member_size m h i next e = leb-true m.size 512 (and_true (leb m.size 512) _ (and_true (eqb m.place i) _ (and_true (is_inside m.parent h) _ e).1).1).0

-- ---- the loop
module _ (A : ℕ → Node) (next : ℕ) (h : Handle) (n : Node) where
  pub record Going (p total i : ℕ) : Type 0 where
    pub at : p ≡ walk i A n.first
    pub sum : total ≡ sum_to (size_in A n.first) i
    pub held : all_to (member_test A next h n.first) i ≡ true
    pub low : i ≤ n.count
    pub few : n.count ≤ 64
    pub some : n.count ≡ 0 → ⊥
    pub small : total ≤ i * 512

  pub ring_none : n.count ≡ 0 → false ≡ ring_test A next h n
  unfolding ring_test
  ring_none e = rw (eq-eqb n.count 0 e)

  pub ring_many : (n.count ≡ 0 → ⊥) → 64 < n.count → false ≡ ring_test A next h n
  unfolding ring_test
  ring_many z e = rw (ne_eqb n.count 0 z, lt-leb n.count 64 e)

  pub going_starts : (n.count ≡ 0 → ⊥) → n.count ≤ 64 → Going n.first 0 0
  unfolding walk
  going_starts z f = record { at = refl; sum = sym (sum_none (size_in A n.first)); held = sym (all_none (member_test A next h n.first)); low = omega arith; few = f; some = z; small = omega arith }

  module _ (p total i : ℕ) (G : Going p total i) where
    opened : (c : Bool) → all_to (member_test A next h n.first) n.count ≡ c
        → ring_test A next h n ≡ (c && (eqb n.size (sum_to (size_in A n.first) n.count) && eqb (walk n.count A n.first) 0))
    unfolding ring_test
    opened c e = rw (ne_eqb n.count 0 G.some, le-leb n.count 64 G.few, e)

    fails : i < n.count → member_test A next h n.first i ≡ false → false ≡ ring_test A next h n
    fails l e = sym (opened false (sym (all_not (member_test A next h n.first) n.count i l e)))

    pub going_out : i < n.count → 512 ≤ p → false ≡ ring_test A next h n
    unfolding member_test
    going_out l q = fails l (ap (λ (x : Bool). x && member_of (A (walk i A n.first)) h i next) (le-ltb (walk i A n.first) 512 (omega (arith, G.at, q))))

    module _ (l : i < n.count) (q : p < 512) (m : Node) (e : m ≡ A p) (t : Bool) (r : t ≡ member_of m h i next) where
      tested : member_test A next h n.first i ≡ t
      unfolding member_test
      tested = ap₂ ◌&&◌ (lt-ltb (walk i A n.first) 512 (omega (arith, G.at, q))) (sym (r ∙ ap (λ (x : Node). member_of x h i next) (e ∙ ap A G.at)))

      pub going_fails : t ≡ false → false ≡ ring_test A next h n
      going_fails f = fails l (tested ∙ f)

      pub little : t ≡ true → m.size ≤ 512
      little f = member_size m h i next (sym r ∙ f)

      pub going_on : t ≡ true → Going m.next (total + m.size) (i + 1)
      unfolding walk
      going_on f = record {
        at = ap (λ (x : Node). x.next) (e ∙ ap A G.at) ∙ sym (ap (λ (k : ℕ). walk k A n.first) (add-one i));
        sum = ap₂ ◌+◌ G.sum (ap (λ (x : Node). x.size) (e ∙ ap A G.at)) ∙ sym (sum_more (size_in A n.first) i);
        held = all_more (member_test A next h n.first) i G.held (tested ∙ f);
        low = omega arith;
        few = G.few;
        some = G.some;
        small = omega (arith, little f, G.small);
      }

    pub going_ends : n.count ≤ i → (eqb n.size total && eqb p 0) ≡ ring_test A next h n
    going_ends l =
        let k : i ≡ n.count = omega (arith, G.low) in
        ap₂ (λ (x y : ℕ). eqb n.size x && eqb y 0) (G.sum ∙ ap (sum_to (size_in A n.first)) k) (G.at ∙ ap (λ (j : ℕ). walk j A n.first) k)
        ∙ sym (opened true (sym (ap (all_to (member_test A next h n.first)) k) ∙ G.held))

  -- ---- by class
  pub class_absent : n.class ≡ Absent → false ≡ class_test A next h n
  unfolding class_test
  class_absent e = rw e

  pub class_ring : n.class ≡ Blossom → (t : Bool) → t ≡ ring_test A next h n → t ≡ class_test A next h n
  unfolding class_test
  class_ring e t r = r ∙ rw e

  pub class_defect : (v : Vertex) → n.class ≡ Defect v → (eqb n.size 1 && (eqb n.first 0 && eqb n.count 0)) ≡ class_test A next h n
  unfolding class_test
  class_defect v e = rw e
