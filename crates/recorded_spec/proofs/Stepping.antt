-- Step by step and by what has been grown so far are one: the same number, the same lengths, and the bench of one growth by all of them. Assumes nothing.
use Rattle.std.specs.Prelude.{Option}
use Prim.Native.Nat.{ℕ, zero, suc, ◌+◌, ◌<◌}
use mathlib.Core.Path.{◌≡◌, refl, sym, ◌∙◌, ap, subst}
use mathlib.Core.Bool.{Bool, true, false, true≢false}
use mathlib.Core.List.{List, [], ◌∷◌, ◌++◌}
use native.Mathlib.Omega.{arith}
use borrow.Author.Tests.{le-ltb}
use lib.IntN.{ℤ, pos, negsuc, ◌+ℤ◌, ◌-ℤ◌, +ℤ_assoc, +ℤ_idr}
use lib.Signed.{lt_z}
use Rattle.ledger_spec.specs.Numbers.{SHORT}
use Rattle.ledger_spec.specs.Bench.{Bench}
use Rattle.ledger_spec.specs.Tests.{first}
use Rattle.ledger_spec.specs.Refuse.{grow_tests}
use Rattle.ledger_spec.specs.Deeds.{grow_by}
use Rattle.ledger_spec.specs.Frame.{Frame}
use Rattle.ledger_spec.specs.Account.{total}
use Rattle.ledger_spec.specs.Groups.{Group}
use Rattle.ledger_laws.proofs.Laws.{grow_grow}
use Rattle.recorded_spec.specs.Recorded.{Steps, stopped, onward, group_tests, growth_in, step_by, or_else, steps}
use Rattle.recorded_spec.specs.Sums.{Sums, refused, further, sums}
use Rattle.recorded_spec.proofs.Zero.{grow_zero}
use Rattle.recorded_spec.proofs.Tested.{tests_grown, group_first}
use Rattle.recorded_spec.proofs.Lengths.{group_grows, Stepped, stepped}

-- a number is not below 0, and added to one it still is not
not_neg : (d : ℤ) (n : ℕ) → lt_z d (pos 0) ≡ false → lt_z (d +ℤ pos n) (pos 0) ≡ false
not_neg (pos x) n h = le-ltb (x + n) 0 (omega arith)
not_neg (negsuc x) n h = absurd (true≢false h)

module _ (b : Bench) (F : Frame b) (u : ℕ) (low : u < 8) where
  -- what a growth of b in all is refused for
  abbrev pub in_all : ℤ → ℕ
  in_all t = first (grow_tests b u t)

  -- s on the bench that has grown by d, and t by what has been grown
  pub record Same (d : ℤ) (s : Steps) (t : Sums) : Type 0 where
    pub number : s.number ≡ t.number
    pub lengths : s.lengths ≡ t.lengths
    pub bench : s.bench ≡ grow_by b u (d +ℤ total s.lengths)

  same_stopped : (d : ℤ) (n : ℕ) → Same d (stopped n (grow_by b u d)) (refused n)
  unfolding total
  same_stopped d n = record { number = refl; lengths = refl; bench = ap (grow_by b u) (sym (+ℤ_idr d)) }

  same_onward : (d l : ℤ) (n : ℕ) (s : Steps) (t : Sums) → Same (d +ℤ l) s t → Same d (onward n l (grow_by b u d) s) (further n l t)
  unfolding total
  same_onward d l zero s t e = record { number = e.number; lengths = ap (λ (x : List ℤ). l ∷ x) e.lengths; bench = e.bench ∙ ap (grow_by b u) (+ℤ_assoc d l (total s.lengths)) }
  same_onward d l (suc k) s t e = same_stopped d (suc k)

  -- the number of one step, both ways
  step_number : (d left : ℤ) (g : Option Group) → lt_z d (pos 0) ≡ false → lt_z (pos 0) left ≡ true
      → first (group_tests g ++ grow_tests (grow_by b u d) u (step_by left g)) ≡ or_else (first (group_tests g)) (in_all (d +ℤ step_by left g))
  step_number d left g h k = group_first g _ ∙ go (first (group_tests g)) refl
    where
      go : (n : ℕ) → first (group_tests g) ≡ n → or_else n (first (grow_tests (grow_by b u d) u (step_by left g))) ≡ or_else n (in_all (d +ℤ step_by left g))
      go (suc m) e = refl
      go zero e = ap first (tests_grown b F u low d (step_by left g) h (ap (λ (z : ℤ). lt_z z (pos 0)) s.is ∙ le-ltb s.by 0 (omega arith)))
        where
          s : Stepped left (growth_in g)
          s = stepped left (growth_in g) k (group_grows g e)

  pub steps_sums : (d left : ℤ) (gs : List (Option Group)) → lt_z d (pos 0) ≡ false → Same d (steps (grow_by b u d) u left gs) (sums in_all d left gs)
  unfolding steps sums
  steps_sums d left [] h = go (lt_z (pos 0) left)
    where
      go : (t : Bool) → Same d (elim t [ true ↦ stopped SHORT (grow_by b u d) | false ↦ stopped 0 (grow_by b u d) ]) (elim t [ true ↦ refused SHORT | false ↦ refused 0 ])
      go true = same_stopped d SHORT
      go false = same_stopped d 0
  steps_sums d left (g ∷ gs) h = go (lt_z (pos 0) left) refl (λ e. steps_sums (d +ℤ step_by left g) (left -ℤ step_by left g) gs e)
    where
      l : ℤ
      l = step_by left g

      after : Steps
      after = steps (grow_by (grow_by b u d) u l) u (left -ℤ l) gs

      again : Sums
      again = sums in_all (d +ℤ l) (left -ℤ l) gs

      on : ℕ
      on = or_else (first (group_tests g)) (in_all (d +ℤ l))

      -- a group that is refused stops both; else the rest is the same
      rest : (n : ℕ) → on ≡ n → lt_z (pos 0) left ≡ true → (lt_z (d +ℤ l) (pos 0) ≡ false → Same (d +ℤ l) (steps (grow_by b u (d +ℤ l)) u (left -ℤ l) gs) again) → Same d (onward n l (grow_by b u d) after) (further n l again)
      rest (suc m) e k ih = same_stopped d (suc m)
      rest zero e k ih = same_onward d l zero after again (subst (λ (x : Bench). Same (d +ℤ l) (steps x u (left -ℤ l) gs) again) (sym (grow_grow b u d l)) (ih forth))
        where
          passes : first (group_tests g) ≡ 0
          passes = go (first (group_tests g)) (in_all (d +ℤ l)) e
            where
              go : (x y : ℕ) → or_else x y ≡ 0 → x ≡ 0
              go zero y q = refl
              go (suc x) y q = absurd (omega (arith, q))

          s : Stepped left (growth_in g)
          s = stepped left (growth_in g) k (group_grows g passes)

          forth : lt_z (d +ℤ l) (pos 0) ≡ false
          forth = ap (λ (z : ℤ). lt_z (d +ℤ z) (pos 0)) s.is ∙ not_neg d s.by h

      go : (t : Bool) → lt_z (pos 0) left ≡ t → (lt_z (d +ℤ l) (pos 0) ≡ false → Same (d +ℤ l) (steps (grow_by b u (d +ℤ l)) u (left -ℤ l) gs) again)
          → Same d (elim t [ true ↦ onward (first (group_tests g ++ grow_tests (grow_by b u d) u l)) l (grow_by b u d) after | false ↦ stopped 0 (grow_by b u d) ]) (elim t [ true ↦ further on l again | false ↦ refused 0 ])
      go true k ih = subst (λ (n : ℕ). Same d (onward n l (grow_by b u d) after) (further on l again)) (sym (step_number d left g h k)) (rest on refl k ih)
      go false k ih = same_stopped d 0

  -- from the bench itself
  pub steps_are : (l : ℤ) (gs : List (Option Group)) → Same (pos 0) (steps b u l gs) (sums in_all (pos 0) l gs)
  steps_are l gs = subst (λ (x : Bench). Same (pos 0) (steps x u l gs) (sums in_all (pos 0) l gs)) (grow_zero b u) (steps_sums (pos 0) l gs refl)
