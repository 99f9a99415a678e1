-- Growing against a recording that is accepted is one growth by the whole length, and the same as its steps one by one. Assumes nothing.
use Rattle.std.specs.Prelude.{None, Option, Some}
use Prim.Native.Nat.{ℕ, zero, suc}
use mathlib.Core.Path.{◌≡◌, refl, sym, ◌∙◌, ap}
use mathlib.Core.Bool.{Bool, true, false, ◌&&◌, true≢false}
use mathlib.Core.List.{List, [], ◌∷◌}
use native.Mathlib.Omega.{arith}
use lib.ListN.{length}
use lib.IntN.{ℤ, pos, negsuc, ◌+ℤ◌, +ℤ_idl, +ℤ_idr, nat_abs}
use lib.Signed.{lt_z, le_z}
use lib.Dec.{ltb}
use borrow.Author.Tests.{le-ltb}
use Rattle.ledger_spec.specs.Numbers.{progress_limit, SMALL}
use Rattle.ledger_spec.specs.Bench.{State, grows, stays, shrinks, Node, Bench}
use Rattle.ledger_spec.specs.Look.{interface, slot_of}
use Rattle.ledger_spec.specs.Tests.{first, is_shrink, sinks, floored}
use Rattle.ledger_spec.specs.Refuse.{unit_tests, grow_tests}
use Rattle.ledger_spec.specs.Deeds.{grow_by}
use Rattle.ledger_spec.specs.Calls.{Grow}
use Rattle.ledger_spec.specs.Answers.{answer}
use Rattle.ledger_spec.specs.Sound.{sound, afloat}
use Rattle.ledger_spec.specs.Facts.{Sound}
use Rattle.ledger_spec.specs.Account.{total}
use Rattle.ledger_spec.specs.Groups.{Group}
use Rattle.ledger_spec.proofs.Says.{says}
use Rattle.ledger_spec.proofs.Passed.{Open, passed, open_of}
use Rattle.ledger_spec.proofs.Accepted.{grow_passed}
use Rattle.ledger_laws.proofs.Floors.{level_top}
use Rattle.ledger_laws.proofs.GrowCalls.{grow_tests_lem}
use Rattle.ledger_laws.proofs.Demand.{grew, grows_now}
use Rattle.recorded_spec.specs.Recorded.{Steps, stopped, onward, step_by, or_else, steps, recorded_tests, recorded_no, all_or_none, grow_recorded}
use Rattle.recorded_spec.specs.Sums.{sums}
use Rattle.recorded_spec.proofs.Stepping.{in_all, Same, steps_are}
use Rattle.recorded_spec.proofs.Totals.{first_zero, nothing_left, Through, through}

-- what is not below 0 does not sink by 0
float_stays : (o : Option Node) → afloat o ≡ true → sinks (pos 0) o ≡ false
float_stays None h = refl
float_stays (Some n) h = go n.state n.value h
  where
    go : (s : State) (v : ℤ) → le_z (pos 0) v ≡ true → (is_shrink s && lt_z v (pos 0)) ≡ false
    go grows v e = refl
    go stays v e = refl
    go shrinks (pos m) e = le-ltb m 0 (omega arith)
    go shrinks (negsuc m) e = absurd (true≢false (sym e))

-- ---- an accepted call
pub record Accepted (b : Bench) (u : ℕ) (l : ℤ) (gs : List (Option Group)) (room : ℕ) : Type 0 where
  pub sound : Sound b
  pub here : Open b u
  pub forward : lt_z l (pos 0) ≡ false
  pub went : (steps b u l gs).number ≡ 0
  pub fits : ltb room (length gs) ≡ false
  pub is : grow_recorded b u l gs room ≡ record { number = 0; lengths = (steps b u l gs).lengths; bench = (steps b u l gs).bench }

module _ (b : Bench) (u : ℕ) (l : ℤ) (gs : List (Option Group)) (room : ℕ) where
  settled : (n : ℕ) (s : Steps) → (all_or_none n b s).number ≡ 0 → (n ≡ 0) × (all_or_none n b s ≡ record { number = 0; lengths = s.lengths; bench = s.bench })
  settled zero s e = (refl, refl)
  settled (suc n) s e = absurd (omega (arith, e))

  pub accepted : (grow_recorded b u l gs room).number ≡ 0 → Accepted b u l gs room
  unfolding grow_recorded recorded_no recorded_tests unit_tests
  accepted = go (sound b) refl
    where
      whole : Bool → Steps
      whole t = elim t [ true ↦ all_or_none (recorded_no b u l gs room) b (steps b u l gs) | false ↦ stopped 2 b ]

      go : (t : Bool) → sound b ≡ t → (whole t).number ≡ 0 → Accepted b u l gs room
      go false e z = absurd (omega (arith, z))
      go true e z = let s = settled (recorded_no b u l gs room) (steps b u l gs) z in let n = first_zero (first (recorded_tests b u l)) (or_else (steps b u l gs).number (first ((ltb room (length gs), SMALL) ∷ []))) s.0 in
          let t = passed (recorded_tests b u l) tt n.0 in
          record {
            sound = says b e;
            here = open_of b u t.0 t.1.0;
            forward = t.1.1.0;
            went = (first_zero (steps b u l gs).number (first ((ltb room (length gs), SMALL) ∷ [])) n.1).0;
            fits = (passed ((ltb room (length gs), SMALL) ∷ []) tt (first_zero (steps b u l gs).number (first ((ltb room (length gs), SMALL) ∷ [])) n.1).1).0;
            is = ap whole e ∙ s.1;
          }

  -- ---- what an accepted call comes to
  module _ (A : Accepted b u l gs room) where
    again : Same b A.sound.frame u A.here.low (pos 0) (steps b u l gs) (sums (in_all b A.sound.frame u A.here.low) (pos 0) l gs)
    again = steps_are b A.sound.frame u A.here.low l gs

    came : Through (in_all b A.sound.frame u A.here.low) (pos 0) l gs (sums (in_all b A.sound.frame u A.here.low) (pos 0) l gs)
    came = through (in_all b A.sound.frame u A.here.low) (pos 0) l gs A.forward (sym again.number ∙ A.went)

    -- the lengths add up to the whole
    pub adds_up : total (steps b u l gs).lengths ≡ l
    adds_up = ap total again.lengths ∙ came.adds

    -- and leave the bench of one growth
    pub one_bench : (steps b u l gs).bench ≡ grow_by b u l
    one_bench = again.bench ∙ ap (grow_by b u) (+ℤ_idl (total (steps b u l gs).lengths) ∙ adds_up)

    -- which is accepted
    pub one_passes : first (grow_tests b u l) ≡ 0
    one_passes = go (lt_z (pos 0) l) refl
      where
        stays : lt_z (pos progress_limit) (interface b u).progress ≡ false
        stays = ap (lt_z (pos progress_limit)) (A.sound.forward u) ∙ le-ltb progress_limit (nat_abs (interface b u).progress) (A.sound.limit u)

        go : (t : Bool) → lt_z (pos 0) l ≡ t → first (grow_tests b u l) ≡ 0
        go true k = ap (λ (z : ℤ). first (grow_tests b u z)) (sym (+ℤ_idl l)) ∙ came.tested k
        go false k = grow_tests_lem b u l (record {
          here = A.here;
          forward = A.forward;
          limit = ap (λ (z : ℤ). lt_z (pos progress_limit) ((interface b u).progress +ℤ z)) (nothing_left l A.forward k) ∙ ap (lt_z (pos progress_limit)) (+ℤ_idr (interface b u).progress) ∙ stays;
          above = λ e w s h t. ap (λ (z : ℤ). sinks z (slot_of b w s)) (nothing_left l A.forward k)
              ∙ float_stays (slot_of b w s) (A.sound.floors.values w s (level_top b A.sound.floors w ∙ ap (floored b) t ∙ e));
        })

-- ---- the theorems
-- accepted: one growth by the whole length is accepted, the bench is the one that it leaves, and the lengths add up to it
pub one_growth : (b : Bench) (u : ℕ) (l : ℤ) (gs : List (Option Group)) (room : ℕ) → (grow_recorded b u l gs room).number ≡ 0
    → ((answer b (Grow u l)).number ≡ 0) × ((grow_recorded b u l gs room).bench ≡ (answer b (Grow u l)).bench) × (total (grow_recorded b u l gs room).lengths ≡ l)
one_growth b u l gs room z = (y, ap (λ (s : Steps). s.bench) A.is ∙ one_bench b u l gs room A ∙ sym (grew b u l y).2, ap (λ (s : Steps). total s.lengths) A.is ∙ adds_up b u l gs room A)
  where
    A : Accepted b u l gs room
    A = accepted b u l gs room z

    y : (answer b (Grow u l)).number ≡ 0
    y = grows_now b u l A.sound (grow_passed b u l (one_passes b u l gs room A))
