-- The call's answer, case by case, as code finds it that tests first and grows once. Assumes nothing.
use Rattle.std.specs.Prelude.{Option}
use Prim.Native.Nat.{ℕ, zero, suc, ◌≤◌, ◌<◌}
use mathlib.Core.Path.{◌≡◌, refl, ◌∙◌, ap, ap₂}
use mathlib.Core.Bool.{Bool, true, false}
use mathlib.Core.List.{List, [], ◌∷◌}
use native.Mathlib.Omega.{arith}
use lib.Dec.{ltb, leb}
use borrow.Author.Tests.{lt-ltb, le-ltb}
use lib.ListN.{length}
use lib.IntN.{ℤ, pos}
use lib.Signed.{lt_z}
use Rattle.ledger_spec.specs.Numbers.{BROKEN, UNIT, CHILD, LENGTH, SMALL}
use Rattle.ledger_spec.specs.Bench.{Bench}
use Rattle.ledger_spec.specs.Tests.{first, child}
use Rattle.ledger_spec.specs.Refuse.{unit_tests, grow_tests}
use Rattle.ledger_spec.specs.Deeds.{grow_by}
use Rattle.ledger_spec.specs.Sound.{sound}
use Rattle.ledger_spec.specs.Facts.{Sound}
use Rattle.ledger_spec.specs.Groups.{Group}
use Rattle.ledger_spec.proofs.Says.{says}
use Rattle.ledger_spec.proofs.Passed.{Open}
use Rattle.ledger_spec.proofs.Accepted.{clear_passed}
use Rattle.recorded_spec.specs.Recorded.{Steps, stopped, or_else, steps, recorded_tests, recorded_no, all_or_none, grow_recorded}
use Rattle.recorded_spec.specs.Sums.{Sums, sums}
use Rattle.recorded_spec.proofs.Stepping.{in_all, Same, steps_are}
use Rattle.recorded_spec.proofs.Tests.{sums_ext, sums_any}
use Rattle.recorded_spec.proofs.Whole.{Accepted, accepted, one_bench, one_passes}

module _ (b : Bench) (holds : sound b ≡ true) (u : ℕ) (l : ℤ) (gs : List (Option Group)) (room : ℕ) where
  abbrev small : ℕ
  small = first ((ltb room (length gs), SMALL) ∷ [])

  by_number : (n : ℕ) → recorded_no b u l gs room ≡ n → grow_recorded b u l gs room ≡ all_or_none n b (steps b u l gs)
  unfolding grow_recorded
  by_number n e = ap₂ (λ (t : Bool) (k : ℕ). elim t [ true ↦ all_or_none k b (steps b u l gs) | false ↦ stopped BROKEN b ]) holds e

  -- what comes before any position
  first-unit : (x : ℕ) → first (unit_tests b u) ≡ x → first (recorded_tests b u l) ≡ or_else x (first ((lt_z l (pos 0), LENGTH) ∷ []))
  unfolding recorded_tests unit_tests first
  first-unit x e = go (leb 8 u) (child b u) ∙ ap (λ (k : ℕ). or_else k (first ((lt_z l (pos 0), LENGTH) ∷ []))) e
    where
      go : (s t : Bool) → first ((s, UNIT) ∷ (t, CHILD) ∷ (lt_z l (pos 0), LENGTH) ∷ []) ≡ or_else (first ((s, UNIT) ∷ (t, CHILD) ∷ [])) (first ((lt_z l (pos 0), LENGTH) ∷ []))
      go true t = refl
      go false true = refl
      go false false = refl

  refused-at : (n : ℕ) → (n ≡ 0 → ⊥) → recorded_no b u l gs room ≡ n → grow_recorded b u l gs room ≡ stopped n b
  refused-at zero h e = absurd (h refl)
  refused-at (suc n) h e = by_number (suc n) e

  keeps : (n m : ℕ) → (n ≡ 0 → ⊥) → or_else n m ≡ n
  keeps zero m h = absurd (h refl)
  keeps (suc n) m h = refl

  pub refused-unit : (n : ℕ) → first (unit_tests b u) ≡ n → (n ≡ 0 → ⊥) → grow_recorded b u l gs room ≡ stopped n b
  unfolding recorded_no
  refused-unit n e h = refused-at n h (ap (λ (k : ℕ). or_else k (or_else (steps b u l gs).number small)) (first-unit n e ∙ keeps n (first ((lt_z l (pos 0), LENGTH) ∷ [])) h) ∙ keeps n (or_else (steps b u l gs).number small) h)

  module _ (o : first (unit_tests b u) ≡ 0) where
    pub refused-back : lt_z l (pos 0) ≡ true → grow_recorded b u l gs room ≡ stopped 5 b
    unfolding recorded_no first
    refused-back h = refused-at 5 (λ z. omega (arith, z)) (ap (λ (k : ℕ). or_else k (or_else (steps b u l gs).number small)) (first-unit 0 o ∙ ap (λ (t : Bool). first ((t, LENGTH) ∷ [])) h))

    module _ (f : lt_z l (pos 0) ≡ false) (test : ℤ → ℕ) (same : (n : ℕ) → first (grow_tests b u (pos n)) ≡ test (pos n)) where
      S : Sound b
      S = says b holds

      here : Open b u
      here = clear_passed b u o

      abbrev pub tested : Sums
      tested = sums test (pos 0) l gs

      -- the steps are those of the test
      are : Same b S.frame u here.low (pos 0) (steps b u l gs) (sums (in_all b S.frame u here.low) (pos 0) l gs)
      are = steps_are b S.frame u here.low l gs

      by-test : sums (in_all b S.frame u here.low) (pos 0) l gs ≡ tested
      by-test = sums_ext (in_all b S.frame u here.low) test same gs 0 l

      number_is : (steps b u l gs).number ≡ tested.number
      number_is = are.number ∙ ap (λ (s : Sums). s.number) by-test

      open_tests : first (recorded_tests b u l) ≡ 0
      unfolding first
      open_tests = first-unit 0 o ∙ ap (λ (t : Bool). first ((t, LENGTH) ∷ [])) f

      no-is : recorded_no b u l gs room ≡ or_else tested.number small
      unfolding recorded_no
      no-is = ap₂ (λ (k n : ℕ). or_else k (or_else n small)) open_tests number_is

      pub refused-step : (n : ℕ) → tested.number ≡ n → (n ≡ 0 → ⊥) → grow_recorded b u l gs room ≡ stopped n b
      refused-step n e h = refused-at n h (no-is ∙ ap (λ (k : ℕ). or_else k small) e ∙ keeps n small h)

      pub refused-small : tested.number ≡ 0 → room < length gs → grow_recorded b u l gs room ≡ stopped 19 b
      unfolding first
      refused-small e h = refused-at 19 (λ z. omega (arith, z)) (no-is ∙ ap (λ (k : ℕ). or_else k small) e ∙ ap (λ (t : Bool). first ((t, SMALL) ∷ [])) (lt-ltb room (length gs) h))

      pub accepted-all : tested.number ≡ 0 → length gs ≤ room
          → (grow_recorded b u l gs room ≡ record { number = 0; lengths = tested.lengths; bench = grow_by b u l }) × (first (grow_tests b u l) ≡ 0) × (sums (λ t. 0) (pos 0) l gs ≡ tested)
      unfolding first
      accepted-all e h = (
        all ∙ ap₂ (λ (x : List ℤ) (y : Bench). record { number = 0; lengths = x; bench = y }) (are.lengths ∙ ap (λ (s : Sums). s.lengths) by-test) (one_bench b u l gs room A),
        one_passes b u l gs room A,
        sums_any test gs (pos 0) l e,
      )
        where
          zero-no : recorded_no b u l gs room ≡ 0
          zero-no = no-is ∙ ap (λ (k : ℕ). or_else k small) e ∙ ap (λ (t : Bool). first ((t, SMALL) ∷ [])) (le-ltb room (length gs) h)

          all : grow_recorded b u l gs room ≡ record { number = 0; lengths = (steps b u l gs).lengths; bench = (steps b u l gs).bench }
          all = by_number 0 zero-no

          A : Accepted b u l gs room
          A = accepted b u l gs room (ap (λ (s : Steps). s.number) all)
