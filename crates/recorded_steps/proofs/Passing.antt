-- How the steps' sums go on at a position, by words and numbers. Assumes nothing.
use Rattle.std.specs.Prelude.{Option}
use Prim.Native.Nat.{ℕ, zero, suc, ◌+◌, ◌-◌, ◌≤◌, ◌<◌}
use mathlib.Core.Path.{◌≡◌, refl, sym, ◌∙◌, ap, ap₂}
use mathlib.Core.Bool.{Bool, true, false, cond}
use mathlib.Core.List.{List, [], ◌∷◌}
use native.Mathlib.Omega.{arith}
use native.Mathlib.Decide.{ℕ_discrete}
use lib.Dec.{ltb}
use borrow.Author.Tests.{lt-ltb, le-ltb, ltb-true}
use lib.ListN.{length, drop}
use lib.IntN.{ℤ, pos, negsuc, ◌+ℤ◌, ◌-ℤ◌}
use lib.Signed.{lt_z}
use Rattle.ledger_spec.specs.Numbers.{LENGTH, BELOW, SHORT}
use Rattle.ledger_spec.specs.Tests.{first}
use Rattle.ledger_spec.specs.Groups.{Group, smaller}
use Rattle.recorded_spec.specs.Recorded.{group_tests, growth_in, step_by, or_else}
use Rattle.recorded_spec.specs.Sums.{Sums, refused, further, sums}
use Rattle.recorded_spec.proofs.Lengths.{pos_minus}
use Rattle.recorded_groups.specs.Recording.{played, recording_of}
use Rattle.recorded_steps.specs.declared.Step.{Step}
use Rattle.recorded_steps.specs.Passes.{limit_no, window, StepAs}
use Rattle.recorded_steps.proofs.Windows.{next_group, no_group}

never : (n m : ℕ) → negsuc m ≡ pos n → ⊥
never n m e = let z : ◌≡◌ {A = ℕ} 0 1 = cc in omega arith

same_pos : (n m : ℕ) → pos n ≡ pos m → n ≡ m
same_pos n m e = cc

pub step_low : (left by : ℕ) (x : ℤ) → smaller (pos left) x ≡ pos by → by ≤ left
step_low left by (pos c) e = go (ltb c left) refl e
  where
    go : (t : Bool) → ltb c left ≡ t → cond t (pos c) (pos left) ≡ pos by → by ≤ left
    go true h q = omega (arith, same_pos c by q, ltb-true c left h)
    go false h q = omega (arith, same_pos left by q)
step_low left by (negsuc c) e = absurd (never by c e)

module _ (f : ℤ → ℕ) where
  sums_none : (d left : ℤ) → lt_z (pos 0) left ≡ true → sums f d left [] ≡ refused SHORT
  unfolding sums
  sums_none d left k = ap (λ (t : Bool). elim t [ true ↦ refused SHORT | false ↦ refused 0 ]) k

  sums_cons : (d left : ℤ) (g : Option Group) (gs : List (Option Group)) → lt_z (pos 0) left ≡ true
      → sums f d left (g ∷ gs) ≡ further (or_else (first (group_tests g)) (f (d +ℤ step_by left g))) (step_by left g) (sums f (d +ℤ step_by left g) (left -ℤ step_by left g) gs)
  unfolding sums
  sums_cons d left g gs k = ap (λ (t : Bool). elim t [ true ↦ further (or_else (first (group_tests g)) (f (d +ℤ step_by left g))) (step_by left g) (sums f (d +ℤ step_by left g) (left -ℤ step_by left g) gs) | false ↦ refused 0 ]) k

  sums_done : (d : ℤ) (gs : List (Option Group)) → sums f d (pos 0) gs ≡ refused 0
  unfolding sums
  sums_done d [] = refl
  sums_done d (g ∷ gs) = refl

  -- what is left of a growth by L where done of it is grown, from place at on
  abbrev pub rest : List ℕ → ℕ → ℕ → ℕ → Sums
  rest ws L at done = sums f (pos done) (pos (L - done)) (recording_of (drop at ws))

  pub rest_start : (ws : List ℕ) (L : ℕ) → rest ws L 0 0 ≡ sums f (pos 0) (pos L) (recording_of ws)
  rest_start ws L = ap (λ (n : ℕ). sums f (pos 0) (pos n) (recording_of ws)) (omega arith)

  pub rest_end : (ws : List ℕ) (L at done : ℕ) → L ≤ done → rest ws L at done ≡ refused 0
  rest_end ws L at done h = ap (λ (n : ℕ). sums f (pos done) (pos n) (recording_of (drop at ws))) (omega arith) ∙ sums_done (pos done) (recording_of (drop at ws))

  module _ (ws : List ℕ) (L at done : ℕ) (room : at ≤ length ws) (more : done < L) (r : Step) (S : StepAs ws at (L - done) r) where
    some_left : lt_z (pos 0) (pos (L - done)) ≡ true
    some_left = lt-ltb 0 (L - done) (omega arith)

    inside : r.number ≡ 0 → length ws ≡ at → ⊥
    inside z e = omega (arith, sym (S.short e) ∙ z)

    -- a position that stops the steps
    pub rest_stop : (r.number ≡ 0 → ⊥) → rest ws L at done ≡ refused r.number
    rest_stop h = go (ℕ_discrete (length ws) at)
      where
        stops : (n : ℕ) (m : ℕ) (l : ℤ) (s : Sums) → (n ≡ 0 → ⊥) → further (or_else n m) l s ≡ refused n
        stops zero m l s q = absurd (q refl)
        stops (suc n) m l s q = refl

        go : Dec (length ws ≡ at) → rest ws L at done ≡ refused r.number
        go (yes e) = ap (sums f (pos done) (pos (L - done))) (no_group ws at e) ∙ sums_none (pos done) (pos (L - done)) some_left ∙ ap refused (sym (S.short e))
        go (no e) = ap (sums f (pos done) (pos (L - done))) (next_group ws at (omega arith)) ∙ sums_cons (pos done) (pos (L - done)) (played (window ws at)) (recording_of (drop (at + 1413) ws)) some_left
            ∙ stops (first (group_tests (played (window ws at)))) _ _ _ (λ q. h (S.number e ∙ q)) ∙ ap refused (sym (S.number e))

    -- one that lets them go on
    pub rest_step : r.number ≡ 0 → rest ws L at done ≡ further (f (pos (done + r.by))) (pos r.by) (rest ws L (at + 1413) (done + r.by))
    rest_step z = ap (sums f (pos done) (pos (L - done))) (next_group ws at (omega (arith, inside z)))
        ∙ sums_cons (pos done) (pos (L - done)) (played (window ws at)) (recording_of (drop (at + 1413) ws)) some_left
        ∙ ap (λ (x : ℤ). further (or_else (first (group_tests (played (window ws at)))) (f (pos done +ℤ x))) x (sums f (pos done +ℤ x) (pos (L - done) -ℤ x) (recording_of (drop (at + 1413) ws)))) (S.by z)
        ∙ ap₂ (λ (n : ℕ) (x : ℤ). further (or_else n (f (pos (done + r.by)))) (pos r.by) (sums f (pos (done + r.by)) x (recording_of (drop (at + 1413) ws)))) (sym (S.number (inside z)) ∙ z) left_over
      where
        left_over : pos (L - done) -ℤ pos r.by ≡ pos (L - (done + r.by))
        left_over = pos_minus (L - done) r.by (step_low (L - done) r.by (growth_in (played (window ws at))) (S.by z)) ∙ ap pos (omega arith)

    pub by_low : r.number ≡ 0 → r.by ≤ L - done
    by_low z = step_low (L - done) r.by (growth_in (played (window ws at))) (S.by z)

-- ---- a step refused, a step taken
pub further_no : (n : ℕ) (l : ℤ) (s : Sums) → (n ≡ 0 → ⊥) → (further n l s).number ≡ n
further_no zero l s h = absurd (h refl)
further_no (suc n) l s h = refl

pub further_yes : (n : ℕ) (l : ℤ) (s : Sums) → n ≡ 0 → further n l s ≡ record { number = s.number; lengths = l ∷ s.lengths }
further_yes zero l s e = refl
further_yes (suc n) l s e = absurd (omega (arith, e))

-- ---- the limits
module _ (reach floor done : ℕ) where
  two : (x y : Bool) (n : ℕ) → first ((x, LENGTH) ∷ (y, BELOW) ∷ []) ≡ n → ltb reach done ≡ x → ltb floor done ≡ y → n ≡ limit_no reach floor (pos done)
  two x y n e p q = sym (ap₂ (λ (s t : Bool). first ((s, LENGTH) ∷ (t, BELOW) ∷ [])) p q ∙ e)

  pub past_reach : reach < done → 5 ≡ limit_no reach floor (pos done)
  unfolding first
  past_reach h = two true (ltb floor done) 5 refl (lt-ltb reach done h) refl

  pub past_floor : done ≤ reach → floor < done → 25 ≡ limit_no reach floor (pos done)
  unfolding first
  past_floor h k = two false true 25 refl (le-ltb reach done h) (lt-ltb floor done k)

  pub past_none : done ≤ reach → done ≤ floor → 0 ≡ limit_no reach floor (pos done)
  unfolding first
  past_none h k = two false false 0 refl (le-ltb reach done h) (le-ltb floor done k)
