-- The code's steps and tests, put together as the definitions have them. Past the last slot every word is 0, so a walk may come to any number.
-- Assumes nothing.
use Rattle.std.specs.Prelude.{None, Some}
use Prim.Native.Nat.{ℕ, ◌+◌, ◌*◌, ◌<◌, ◌≤◌}
use mathlib.Core.Path.{◌≡◌, refl, sym, ◌∙◌, ap, ap₂, subst}
use mathlib.Core.Bool.{Bool, false, ◌&&◌}
use mathlib.Core.List.{List}
use native.Mathlib.Numerals.{add-one}
use native.Mathlib.Omega.{arith}
use lib.Dec.{eqb, ltb}
use lib.ListN.{length, get_or-eq_default}
use borrow.Author.Tests.{le-leb, lt-leb, lt-ltb, le-ltb}
use Rattle.kinds.specs.Names.{same_code, no_code}
use Rattle.kinds.specs.States.{blossom_of}
use Rattle.kinds.specs.declared.Handle.{Handle}
use Rattle.bench_words.specs.Store.{node_at, base}
use Rattle.bench_words.specs.declared.Node.{Node}
use Rattle.bench_words.proofs.Laws.{GoodHandle, GoodParent}
use Rattle.ledger_spec.specs.Look.{climb}
use Rattle.bench_views.specs.View.{view}
use Rattle.bench_views.specs.Canon.{walk}
use Rattle.sound_seats.specs.Seats.{is_stay, alone_test, seat_in, seat_test, parent_test}

pub past_last : (b : List ℕ) (p : ℕ) → length b ≡ 6273 → 512 ≤ p → 0 ≡ (node_at b p).next
unfolding node_at
past_last b p e l = let h : length b ≤ base p + 6 = omega arith in sym (get_or-eq_default b 0 h)

-- ---- the walk
pub record Going (A : ℕ → Node) (first steps p i : ℕ) : Type 0 where
  pub at : p ≡ walk i A first
  pub low : i ≤ steps

pub going_starts : (A : ℕ → Node) (first steps : ℕ) → Going A first steps first 0
unfolding walk
going_starts A first steps = record { at = refl; low = omega arith }

pub going_on : (A : ℕ → Node) (first steps p i q : ℕ) → Going A first steps p i → i < steps → q ≡ (A p).next → Going A first steps q (i + 1)
unfolding walk
going_on A first steps p i q G l e = record { at = e ∙ ap (λ (x : ℕ). (A x).next) G.at ∙ sym (ap (λ (k : ℕ). walk k A first) (add-one i)); low = omega arith }

pub going_ends : (A : ℕ → Node) (first steps p i : ℕ) → Going A first steps p i → steps ≤ i → p ≡ walk steps A first
going_ends A first steps p i G l = let e : i ≡ steps = omega (arith, G.low) in G.at ∙ ap (λ (k : ℕ). walk k A first) e

-- ---- a member
module _ (b : List ℕ) (k t : ℕ) (n : Node) (q : Handle) (m : Node) (e : m ≡ node_at b (q.unit * 64 + q.slot)) where
  same : seat_in b k t n q m ≡ seat_test b k t n q
  same = ap (seat_in b k t n q) e

  pub seat_many : 64 < m.count → false ≡ seat_test b k t n q
  unfolding seat_in
  seat_many l = sym (ap (λ (x : Bool). x && (ltb n.place m.count && ((is_stay n.state && ltb n.serial.0 q.serial.0) && ((eqb m.serial.0 q.serial.0 && blossom_of m.class) && (eqb (climb 8 (view b) q.unit) t && eqb (walk n.place (node_at b) m.first) k))))) (lt-leb m.count 64 l)) ∙ same

  pub seat_past : m.count ≤ 64 → m.count ≤ n.place → false ≡ seat_test b k t n q
  unfolding seat_in
  seat_past f l = sym (ap₂ (λ (x y : Bool). x && (y && ((is_stay n.state && ltb n.serial.0 q.serial.0) && ((eqb m.serial.0 q.serial.0 && blossom_of m.class) && (eqb (climb 8 (view b) q.unit) t && eqb (walk n.place (node_at b) m.first) k))))) (le-leb m.count 64 f) (le-ltb n.place m.count l)) ∙ same

  pub seat_row : m.count ≤ 64 → n.place < m.count → (s r : Bool) (u w : ℕ) → s ≡ is_stay n.state → r ≡ blossom_of m.class → u ≡ climb 8 (view b) q.unit → w ≡ walk n.place (node_at b) m.first
      → ((s && ltb n.serial.0 q.serial.0) && ((eqb m.serial.0 q.serial.0 && r) && (eqb u t && eqb w k))) ≡ seat_test b k t n q
  unfolding seat_in
  seat_row f l s r u w es er C ew =
      rw (es, er, C, ew)
      (sym (ap₂ (λ (x y : Bool). x && (y && ((is_stay n.state && ltb n.serial.0 q.serial.0) && ((eqb m.serial.0 q.serial.0 && blossom_of m.class) && (eqb (climb 8 (view b) q.unit) t && eqb (walk n.place (node_at b) m.first) k))))) (le-leb m.count 64 f) (lt-ltb n.place m.count l)) ∙ same)

-- ---- by parent
module _ (b : List ℕ) (k t : ℕ) (n : Node) where
  pub parent_none : n.parent ≡ None → (r : Bool) → r ≡ alone_test n → r ≡ parent_test b k t n
  unfolding parent_test
  parent_none e r h = h ∙ rw e

  pub parent_some : (q : Handle) → n.parent ≡ Some q → (r : Bool) → r ≡ seat_test b k t n q → r ≡ parent_test b k t n
  unfolding parent_test
  parent_some q e r h = h ∙ rw e

  pub good_inside : (q : Handle) → GoodParent n.parent → n.parent ≡ Some q → GoodHandle q
  good_inside q g e = subst GoodParent e g
