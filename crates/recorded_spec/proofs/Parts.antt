-- A recording that is longer than needed answers the same as its taken part; and its steps, one by one by `grow`, leave the same bench. Assumes nothing.
use Rattle.std.specs.Prelude.{Option}
use Prim.Native.Nat.{ℕ, zero, suc}
use mathlib.Core.Path.{◌≡◌, refl, sym, ◌∙◌, ap, ap₂, subst}
use mathlib.Core.Bool.{Bool, true, false}
use mathlib.Core.List.{List, [], ◌∷◌, ◌++◌}
use native.Mathlib.Omega.{arith}
use lib.Dec.{ltb}
use borrow.Author.Tests.{ltb-false, le-ltb}
use lib.ListN.{length, take, length-take}
use lib.IntN.{ℤ, pos, ◌-ℤ◌}
use lib.Signed.{lt_z}
use Rattle.ledger_spec.specs.Numbers.{BROKEN, SMALL, SHORT}
use Rattle.ledger_spec.specs.Bench.{Bench}
use Rattle.ledger_spec.specs.Tests.{first}
use Rattle.ledger_spec.specs.Refuse.{grow_tests}
use Rattle.ledger_spec.specs.Deeds.{grow_by}
use Rattle.ledger_spec.specs.Calls.{Grow}
use Rattle.ledger_spec.specs.Answers.{answer}
use Rattle.ledger_spec.specs.Sound.{sound}
use Rattle.ledger_spec.specs.Facts.{Sound}
use Rattle.ledger_spec.specs.Groups.{Group}
use Rattle.ledger_spec.proofs.Accepted.{GrowPassed, grow_passed}
use Rattle.ledger_laws.proofs.Demand.{grew, grows_now}
use Rattle.ledger_laws.proofs.SoundCalls.{grow_sound}
use Rattle.recorded_spec.specs.Recorded.{Steps, stopped, onward, group_tests, step_by, or_else, steps, recorded_tests, recorded_no, all_or_none, grow_recorded}
use Rattle.recorded_spec.specs.Grown.{OneByOne, none_left, grown_by}
use Rattle.recorded_spec.proofs.Tested.{group_first}
use Rattle.recorded_spec.proofs.Totals.{first_zero}
use Rattle.recorded_spec.proofs.Whole.{Accepted, accepted}

module _ (u : ℕ) where
  abbrev Each : Bench → Steps → Type 0
  Each b s = s.number ≡ 0 → OneByOne u b s.lengths s.bench

  short : (b : Bench) (t : Bool) → Each b (elim t [ true ↦ stopped SHORT b | false ↦ stopped 0 b ])
  short b true e = absurd (omega (arith, e))
  short b false e = none_left

  next : (b : Bench) (S : Sound b) (l : ℤ) (ts : List (Bool × ℕ)) (n : ℕ) (s : Steps) → (n ≡ 0 → first (grow_tests b u l) ≡ 0) → (Sound (grow_by b u l) → Each (grow_by b u l) s) → Each b (onward n l b s)
  next b S l ts (suc k) s f ih e = absurd (omega (arith, e))
  next b S l ts zero s f ih e = grown_by y (subst (λ (x : Bench). OneByOne u x s.lengths s.bench) (sym (grew b u l y).2) (ih (grow_sound b S u l p) e))
    where
      p : GrowPassed b u l
      p = grow_passed b u l (f refl)

      y : (answer b (Grow u l)).number ≡ 0
      y = grows_now b u l S p

  each : (gs : List (Option Group)) (b : Bench) (left : ℤ) → Sound b → Each b (steps b u left gs)
  unfolding steps
  each [] b left S = short b (lt_z (pos 0) left)
  each (g ∷ gs) b left S = go (lt_z (pos 0) left) (λ T. each gs (grow_by b u (step_by left g)) (left -ℤ step_by left g) T)
    where
      l : ℤ
      l = step_by left g

      after : Steps
      after = steps (grow_by b u l) u (left -ℤ l) gs

      go : (t : Bool) → (Sound (grow_by b u l) → Each (grow_by b u l) after) → Each b (elim t [ true ↦ onward (first (group_tests g ++ grow_tests b u l)) l b after | false ↦ stopped 0 b ])
      go false ih e = none_left
      go true ih e = next b S l (group_tests g) (first (group_tests g ++ grow_tests b u l)) after (λ z. (first_zero (first (group_tests g)) (first (grow_tests b u l)) (sym (group_first g (grow_tests b u l)) ∙ z)).1) ih e

-- ---- the theorem: `grow` by each of the lengths in turn is accepted, and leaves the same bench
pub one_by_one : (b : Bench) (u : ℕ) (l : ℤ) (gs : List (Option Group)) (room : ℕ) → (grow_recorded b u l gs room).number ≡ 0
    → OneByOne u b (grow_recorded b u l gs room).lengths (grow_recorded b u l gs room).bench
one_by_one b u l gs room z = subst (λ (s : Steps). OneByOne u b s.lengths s.bench) (sym A.is) (each u gs b l A.sound A.went)
  where
    A : Accepted b u l gs room
    A = accepted b u l gs room z

-- ---- the taken part
abbrev TakesPart : ℕ → ℤ → List (Option Group) → Bench → Steps → Type 0
TakesPart u left gs b s = s.number ≡ 0 → steps b u left (take (length s.lengths) gs) ≡ s

module _ (u : ℕ) (left : ℤ) (b : Bench) where
  none_here : lt_z (pos 0) left ≡ false → steps b u left [] ≡ stopped 0 b
  unfolding steps
  none_here k = ap (λ (t : Bool). elim t [ true ↦ stopped SHORT b | false ↦ stopped 0 b ]) k

  none_short : lt_z (pos 0) left ≡ true → steps b u left [] ≡ stopped SHORT b
  unfolding steps
  none_short k = ap (λ (t : Bool). elim t [ true ↦ stopped SHORT b | false ↦ stopped 0 b ]) k

  module _ (g : Option Group) where
    abbrev l : ℤ
    l = step_by left g

    abbrev on : ℕ
    on = first (group_tests g ++ grow_tests b u l)

    abbrev after : List (Option Group) → Steps
    after gs = steps (grow_by b u l) u (left -ℤ l) gs

    stepping : (gs : List (Option Group)) (t : Bool) → lt_z (pos 0) left ≡ t → steps b u left (g ∷ gs) ≡ elim t [ true ↦ onward on l b (after gs) | false ↦ stopped 0 b ]
    unfolding steps
    stepping gs t k = ap (λ (t : Bool). elim t [ true ↦ onward on l b (after gs) | false ↦ stopped 0 b ]) k

    goes_on : (gs : List (Option Group)) (n : ℕ) → on ≡ n → lt_z (pos 0) left ≡ true → TakesPart u (left -ℤ l) gs (grow_by b u l) (after gs) → TakesPart u left (g ∷ gs) b (onward n l b (after gs))
    goes_on gs (suc n) q k ih e = absurd (omega (arith, e))
    goes_on gs zero q k ih e = stepping (take (length (after gs).lengths) gs) true k ∙ ap₂ (λ (m : ℕ) (s : Steps). onward m l b s) q (ih e)

part : (gs : List (Option Group)) (u : ℕ) (left : ℤ) (b : Bench) → TakesPart u left gs b (steps b u left gs)
part [] u left b = go (lt_z (pos 0) left) refl
  where
    go : (t : Bool) → lt_z (pos 0) left ≡ t → TakesPart u left [] b (steps b u left [])
    go true k = λ e. absurd (omega (arith, ap (λ (s : Steps). s.number) (sym (none_short u left b k)) ∙ e))
    go false k = subst (TakesPart u left [] b) (sym (none_here u left b k)) (λ _. none_here u left b k)
part (g ∷ gs) u left b = go (lt_z (pos 0) left) refl (part gs u (left -ℤ step_by left g) (grow_by b u (step_by left g)))
  where
    go : (t : Bool) → lt_z (pos 0) left ≡ t → TakesPart u (left -ℤ step_by left g) gs (grow_by b u (step_by left g)) (steps (grow_by b u (step_by left g)) u (left -ℤ step_by left g) gs) → TakesPart u left (g ∷ gs) b (steps b u left (g ∷ gs))
    go true k ih = subst (TakesPart u left (g ∷ gs) b) (sym (stepping u left b g gs true k)) (goes_on u left b g gs (first (group_tests g ++ grow_tests b u (step_by left g))) refl k ih)
    go false k ih = subst (TakesPart u left (g ∷ gs) b) (sym (stepping u left b g gs false k)) (λ _. none_here u left b k)

-- the theorem: the groups that were taken answer as the whole recording does
pub taken_part : (b : Bench) (u : ℕ) (l : ℤ) (gs : List (Option Group)) (room : ℕ) → (grow_recorded b u l gs room).number ≡ 0
    → grow_recorded b u l (take (length (grow_recorded b u l gs room).lengths) gs) room ≡ grow_recorded b u l gs room
unfolding grow_recorded recorded_no
taken_part b u l gs room z = ap (λ (s : Steps). grow_recorded b u l (take (length s.lengths) gs) room) A.is ∙ same
  where
    A : Accepted b u l gs room
    A = accepted b u l gs room z

    n : ℕ
    n = length (steps b u l gs).lengths

    few : ltb room (length (take n gs)) ≡ false
    few = le-ltb room (length (take n gs)) (omega (arith, length-take n gs, ltb-false room (length gs) A.fits))

    whole : Steps → Bool → Steps
    whole s t = elim (sound b) [ true ↦ all_or_none (or_else (first (recorded_tests b u l)) (or_else s.number (first ((t, SMALL) ∷ [])))) b s | false ↦ stopped BROKEN b ]

    same : grow_recorded b u l (take n gs) room ≡ grow_recorded b u l gs room
    same = ap₂ whole (part gs u l b A.went) (few ∙ sym A.fits)
