-- Remainders that are all different are those of different serials: what is marked is the remainder of a serial before. Assumes nothing.
use Prim.Native.Nat.{ℕ, ◌+◌, ◌%◌, ◌<◌, ◌≤◌}
use mathlib.Core.Path.{◌≡◌, refl, sym, ◌∙◌, ap}
use mathlib.Core.Logic.{by_cases}
use mathlib.Core.Bool.{Bool, true, false, not, ◌||◌, true≢false, or-true}
use mathlib.Core.List.{List}
use native.Mathlib.Decide.{ℕ_discrete}
use native.Mathlib.Omega.{arith}
use lib.Dec.{eqb}
use lib.ListN.{length, get_or, set, length-set}
use lib.Seq.{get_or-set_same, get_or-set_other}
use borrow.Author.Tests.{eq-eqb, ne_eqb}
use Rattle.sound_trees.specs.Below.{all_to}
use Rattle.sound_trees.proofs.Belows.{all_none, all_more, all_of, all_done}
use Rattle.sound_serials.specs.Different.{serial_at, unlike, once_test, Marks}

pub mark_none : (t : List ℕ) (x : ℕ) → x ≡ 0 → Marks t x t true
mark_none t x z = record { long = refl; kept = λ i e. e; mine = λ r n. absurd (n z); free = λ r n. absurd (n z) }

pub mark_met : (t : List ℕ) (x : ℕ) → Marks t x t false
mark_met t x = record { long = refl; kept = λ i e. e; mine = λ r n. absurd (true≢false (sym r)); free = λ r n. absurd (true≢false (sym r)) }

pub mark_new : (t : List ℕ) (x : ℕ) → length t ≡ 512 → get_or t (x % 512) 0 ≡ 0 → Marks t x (set t (x % 512) 1) true
mark_new t x len z = record {
  long = length-set t (x % 512) 1;
  kept = λ i e. by_cases (ℕ_discrete i (x % 512)) (λ (q : i ≡ x % 512). ap (λ (j : ℕ). get_or (set t (x % 512) 1) j 0) q ∙ here) (λ (q : i ≡ x % 512 → ⊥). get_or-set_other t (x % 512) i 1 0 q ∙ e);
  mine = λ r n. here;
  free = λ r n. z;
}
  where
    here : get_or (set t (x % 512) 1) (x % 512) 0 ≡ 1
    here = get_or-set_same t (x % 512) 1 0 (omega (arith, len))

-- the slots before k have remainders that are all different and marked
pub record Going (b t : List ℕ) (k : ℕ) : Type 0 where
  pub long : length t ≡ 512
  pub marked : (j : ℕ) → j < k → (serial_at b j ≡ 0 → ⊥) → get_or t (serial_at b j % 512) 0 ≡ 1
  pub once : all_to (once_test b) k ≡ true
  pub low : k ≤ 512

pub going_none : (b t : List ℕ) → length t ≡ 512 → Going b t 0
going_none b t len = record { long = len; marked = λ j l n. absurd (omega arith); once = sym (all_none (once_test b)); low = omega arith }

pub going_more : (b t t' : List ℕ) (k x : ℕ) (r : Bool) → Going b t k → k < 512 → x ≡ serial_at b k → Marks t x t' r → r ≡ true → Going b t' (k + 1)
unfolding once_test
going_more b t t' k x r G l e M q = record {
  long = M.long ∙ G.long;
  marked = λ j lj n. by_cases (ℕ_discrete j k)
      (λ (p : j ≡ k). ap (λ (i : ℕ). get_or t' (serial_at b i % 512) 0) p ∙ ap (λ (y : ℕ). get_or t' (y % 512) 0) (sym e) ∙ M.mine q (λ z. n (ap (serial_at b) p ∙ sym e ∙ z)))
      (λ (p : j ≡ k → ⊥). M.kept (serial_at b j % 512) (G.marked j (omega arith) n));
  once = all_more (once_test b) k G.once (go (ℕ_discrete (serial_at b k) 0));
  low = omega arith;
}
  where
    go : Dec (serial_at b k ≡ 0) → once_test b k ≡ true
    go (yes z) = ap (λ (c : Bool). c || all_to (unlike b (serial_at b k)) k) (eq-eqb (serial_at b k) 0 z)
    go (no z) = ap (λ (c : Bool). eqb (serial_at b k) 0 || c) (all_of (unlike b (serial_at b k)) k (λ j lj. ap not (ne_eqb (serial_at b j) (serial_at b k) (λ s.
        omega (arith, G.marked j lj (λ y. z (sym s ∙ y)), ap (λ (y : ℕ). get_or t (y % 512) 0) (s ∙ sym e), M.free q (λ y. z (sym e ∙ y))))))) ∙ or-true (eqb (serial_at b k) 0)

pub going_ends : (b t : List ℕ) (k : ℕ) → Going b t k → 512 ≤ k → true ≡ all_to (once_test b) 512
going_ends b t k G l = all_done (once_test b) 512 k G.once (omega (arith, G.low))
