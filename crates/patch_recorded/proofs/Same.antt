-- A growth over a recording, by the patch alone on a bench and by the patch on a bench that it shares: the same number and the same lengths. Assumes nothing.
use Rattle.std.specs.Prelude.{Option}
use Prim.Native.Nat.{ℕ, zero, suc, ◌<◌}
use mathlib.Core.Path.{◌≡◌, refl, sym, ◌∙◌, ap}
use mathlib.Core.Logic.{◌≢◌, by_cases}
use mathlib.Core.Bool.{Bool, true, false}
use mathlib.Core.List.{List, [], ◌∷◌}
use native.Mathlib.Omega.{arith}
use native.Mathlib.Decide.{ℕ_discrete, dec_lt}
use lib.ListN.{length}
use lib.IntN.{ℤ, pos}
use lib.Signed.{lt_z}
use Rattle.ledger_spec.specs.Numbers.{BROKEN}
use Rattle.ledger_spec.specs.Bench.{Bench}
use Rattle.ledger_spec.specs.Tests.{first}
use Rattle.ledger_spec.specs.Refuse.{unit_tests, grow_tests}
use Rattle.ledger_spec.specs.Groups.{Group}
use Rattle.ledger_spec.specs.Sound.{sound}
use Rattle.recorded_spec.specs.Recorded.{Steps, stopped, steps, recorded_no, all_or_none, grow_recorded}
use Rattle.recorded_spec.specs.Sums.{sums}
use Rattle.recorded_spec.proofs.Answers.{refused-unit, refused-back, refused-step, refused-small, accepted-all}

-- two sound benches on which every growth of an interface is tested alike
module _ (b d : Bench) (sb : sound b ≡ true) (sd : sound d ≡ true) (u : ℕ) (units : first (unit_tests b u) ≡ first (unit_tests d u))
    (tests : (n : ℕ) → first (grow_tests b u (pos n)) ≡ first (grow_tests d u (pos n))) (l : ℤ) (gs : List (Option Group)) (room : ℕ) where
  abbrev Alike : Type 0
  Alike = ((grow_recorded b u l gs room).number ≡ (grow_recorded d u l gs room).number) × ((grow_recorded b u l gs room).lengths ≡ (grow_recorded d u l gs room).lengths)

  by_stop : (n : ℕ) → grow_recorded b u l gs room ≡ stopped n b → grow_recorded d u l gs room ≡ stopped n d → Alike
  by_stop n x y = (ap (λ (s : Steps). s.number) x ∙ sym (ap (λ (s : Steps). s.number) y), ap (λ (s : Steps). s.lengths) x ∙ sym (ap (λ (s : Steps). s.lengths) y))

  test : ℤ → ℕ
  test z = first (grow_tests d u z)

  same : (n : ℕ) → first (grow_tests b u (pos n)) ≡ test (pos n)
  unfolding test
  same n = tests n

  own : (n : ℕ) → first (grow_tests d u (pos n)) ≡ test (pos n)
  unfolding test
  own n = refl

  module _ (o : first (unit_tests d u) ≡ 0) (f : lt_z l (pos 0) ≡ false) where
    walked : (n : ℕ) → (sums test (pos 0) l gs).number ≡ n → Alike
    walked zero e = by_cases (dec_lt room (length gs))
        (λ (h : room < length gs). by_stop 19 (refused-small b sb u l gs room (units ∙ o) f test same e h) (refused-small d sd u l gs room o f test own e h))
        (λ (h : room < length gs → ⊥).
        let x = (accepted-all b sb u l gs room (units ∙ o) f test same e (omega (arith, h))).0 in
        let y = (accepted-all d sd u l gs room o f test own e (omega (arith, h))).0 in
        (ap (λ (s : Steps). s.number) x ∙ sym (ap (λ (s : Steps). s.number) y), ap (λ (s : Steps). s.lengths) x ∙ sym (ap (λ (s : Steps). s.lengths) y)))
    walked (suc n) e = by_stop (suc n) (refused-step b sb u l gs room (units ∙ o) f test same (suc n) e (λ z. omega (arith, z))) (refused-step d sd u l gs room o f test own (suc n) e (λ z. omega (arith, z)))

  forward : first (unit_tests d u) ≡ 0 → (t : Bool) → lt_z l (pos 0) ≡ t → Alike
  forward o true e = by_stop 5 (refused-back b sb u l gs room (units ∙ o) e) (refused-back d sd u l gs room o e)
  forward o false e = walked o e _ refl

  pub grown_alike : Alike
  grown_alike = by_cases (ℕ_discrete (first (unit_tests d u)) 0)
      (λ (z : first (unit_tests d u) ≡ 0). forward z (lt_z l (pos 0)) refl)
      (λ (z : first (unit_tests d u) ≡ 0 → ⊥). by_stop (first (unit_tests d u)) (refused-unit b sb u l gs room (first (unit_tests d u)) units z) (refused-unit d sd u l gs room (first (unit_tests d u)) refl z))

-- refused, the bench is as it was
abbrev chosen : Bool → ℕ → Bench → Steps → Steps
chosen t n b s = elim t [ true ↦ all_or_none n b s | false ↦ stopped BROKEN b ]

stays : (t : Bool) (n : ℕ) (b : Bench) (s : Steps) → (chosen t n b s).number ≢ 0 → (chosen t n b s).bench ≡ b
stays true zero b s h = absurd (h refl)
stays true (suc n) b s h = refl
stays false n b s h = refl

pub growth_refused : (b : Bench) (u : ℕ) (l : ℤ) (gs : List (Option Group)) (room : ℕ) → (grow_recorded b u l gs room).number ≢ 0 → (grow_recorded b u l gs room).bench ≡ b
unfolding grow_recorded
growth_refused b u l gs room = stays (sound b) (recorded_no b u l gs room) b (steps b u l gs)
