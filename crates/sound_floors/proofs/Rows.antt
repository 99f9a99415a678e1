-- The code's tests are the definition's: no sum in them wraps, and each way out is a part of the test. Assumes nothing.
use Rattle.std.specs.Prelude.{Option, Some}
use Prim.Native.Nat.{ℕ, ◌+◌, ◌-◌, ◌<◌, ◌≤◌}
use mathlib.Core.Path.{◌≡◌, refl, sym, ◌∙◌, ap}
use mathlib.Core.Bool.{Bool, true, false, not, ◌&&◌, ◌||◌}
use mathlib.Core.List.{List}
use mathlib.Core.Logic.{by_cases}
use native.Mathlib.Decide.{dec_lt}
use native.Mathlib.Omega.{arith}
use lib.Dec.{leb}
use borrow.Author.Tests.{le-leb, lt-leb, not-true, not-false}
use Rattle.kinds.specs.declared.GrowState.TheVariants.{Grow, Shrink}
use Rattle.kinds.specs.declared.Class.TheVariants.{Absent, Blossom, Defect}
use Rattle.kinds.specs.declared.Vertex.{Vertex}
use Rattle.bench_words.specs.Store.{interface_at}
use Rattle.bench_words.specs.declared.Node.{Node}
use Rattle.bench_words.specs.declared.Interface.{Interface}
use Rattle.bench_words.proofs.Laws.{GoodUp, good_interface}
use Rattle.ledger_spec.specs.Tests.{same}
use Rattle.bench_views.specs.View.{sum_up}
use Rattle.bench_views.specs.Records.{Steady}
use Rattle.bench_trees.specs.Climb.{Climbs}
use Rattle.sound_trees.specs.Below.{all_to}
use Rattle.sound_floors.specs.Floors.{high_test, afloat_test, level_test, slot_afloat, floor_test}

-- ---- two tests of order that say the same
same_order : (a b c d : ℕ) → (a ≤ b → c ≤ d) → (b < a → d < c) → leb a b ≡ leb c d
same_order a b c d h k = by_cases (dec_lt b a)
    (λ (l : b < a). lt-leb a b l ∙ sym (lt-leb c d (k l)))
    (λ (l : b < a → ⊥). let m : a ≤ b = omega (arith, l) in le-leb a b m ∙ sym (le-leb c d (h m)))

pub high_grow : (v t : ℕ) → t ≤ 8796093022208 → leb (1152921504606846976 - t) v ≡ high_test Grow v t
high_grow v t l = same_order (1152921504606846976 - t) v 1152921504606846976 (v + t) (λ h. omega arith) (λ h. omega arith)

pub high_shrink : (v t : ℕ) → leb (1152921504606846976 + t) v ≡ high_test Shrink v t
high_shrink v t = same_order (1152921504606846976 + t) v 1152921504606846976 (v - t) (λ h. omega arith) (λ h. omega arith)

-- ---- a node
module _ (m n : Node) (t : ℕ) (e : m ≡ n) where
  pub none_afloat : m.class ≡ Absent → true ≡ afloat_test n t
  unfolding afloat_test
  none_afloat c = rw (← e, c)

  pub ring_afloat : m.class ≡ Blossom → (r : Bool) → r ≡ high_test m.state m.bias t → r ≡ afloat_test n t
  unfolding afloat_test
  ring_afloat c r q = rw (← e, c) q

  pub single_afloat : (v : Vertex) → m.class ≡ Defect v → (r : Bool) → r ≡ high_test m.state m.bias t → r ≡ afloat_test n t
  unfolding afloat_test
  single_afloat v c r q = rw (← e, c) q

-- ---- a level
pub level_same : (c d : Bool) → ((c && d) || (not c && not d)) ≡ same c d
level_same true true = refl
level_same true false = refl
level_same false true = refl
level_same false false = refl

pub level_under : (U : ℕ → Interface) (p : Option ℕ) (q : ℕ) (c : Bool) (f : Interface) → p ≡ Some q → f ≡ U q → ((c && f.marks.floored) || (not c && not f.marks.floored)) ≡ level_test U p c
level_under U p q c f e ef = level_same c f.marks.floored ∙ rw (e, ef)

-- ---- an interface
module _ (b : List ℕ) (u : ℕ) (f : Interface) (e : f ≡ interface_at b u) where
  pub good_loaded : GoodUp f.parent
  good_loaded = rw e (good_interface b u)

  pub used_small : Steady b → u < 8 → f.used ≤ 64
  used_small st lu = rw e (st.slots u lu)

  module _ (r : Bool) (er : r ≡ level_test (interface_at b) f.parent f.marks.floored) where
    level : r ≡ level_test (interface_at b) (interface_at b u).parent (interface_at b u).marks.floored
    level = er ∙ ap (λ (x : Interface). level_test (interface_at b) x.parent x.marks.floored) e

    abbrev rest : Bool → Bool
    rest c = not c || all_to (slot_afloat b u (sum_up 8 (interface_at b) u)) (interface_at b u).used

    pub not_level : not r ≡ true → false ≡ floor_test b u
    unfolding floor_test
    not_level h = sym (ap (λ (x : Bool). x && rest (interface_at b u).marks.floored) (sym level ∙ not-true r h))

    module _ (h : not r ≡ false) where
      opened : floor_test b u ≡ rest f.marks.floored
      unfolding floor_test
      opened = ap (λ (x : Bool). x && rest (interface_at b u).marks.floored) (sym level ∙ not-false r h) ∙ ap (λ (x : Interface). rest x.marks.floored) (sym e)

      pub unfloored : not f.marks.floored ≡ true → true ≡ floor_test b u
      unfloored k = sym (opened ∙ ap rest (not-true f.marks.floored k))

      pub all_afloat : not f.marks.floored ≡ false → {top t : ℕ} → Climbs b u top t → (a : Bool) → a ≡ all_to (slot_afloat b u t) f.used → a ≡ floor_test b u
      all_afloat k {t = t} C a ea = ea ∙ ap (all_to (slot_afloat b u t)) (ap (λ (x : Interface). x.used) e) ∙ ap (λ (x : ℕ). all_to (slot_afloat b u x) (interface_at b u).used) C.total ∙ sym (opened ∙ ap rest (not-false f.marks.floored k))
