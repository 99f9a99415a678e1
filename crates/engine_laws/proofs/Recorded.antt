-- THEOREM. Growing against a recording takes the same steps in either engine. Assumes nothing.
use Rattle.std.specs.Prelude.{Option}
use Prim.Native.Nat.{ℕ, zero, suc}
use mathlib.Core.Path.{◌≡◌, refl, ap, ◌∙◌}
use mathlib.Core.Bool.{Bool, true, false}
use mathlib.Core.List.{List, [], ◌∷◌, ◌++◌}
use lib.Dec.{ltb}
use lib.ListN.{length}
use lib.IntN.{ℤ, pos, ◌-ℤ◌}
use lib.Signed.{lt_z}
use Rattle.ledger_spec.specs.Numbers.{BROKEN, LENGTH, SMALL, SHORT}
use Rattle.ledger_spec.specs.Bench.{Bench}
use Rattle.ledger_spec.specs.Tests.{first}
use Rattle.ledger_spec.specs.Refuse.{grow_tests}
use Rattle.ledger_spec.specs.Deeds.{grow_by}
use Rattle.ledger_spec.specs.Sound.{sound}
use Rattle.ledger_spec.specs.Groups.{Group}
use Rattle.recorded_spec.specs.Recorded.{Steps, group_tests, step_by, stopped, onward, steps, recorded_tests, or_else, recorded_no, all_or_none, grow_recorded}
use Rattle.engine_laws.specs.Engines.{in_engine, steps_in}
use Rattle.engine_laws.proofs.Tests.{unit_tests_lem, grow_tests_lem}
use Rattle.engine_laws.proofs.Deeds.{grow_in}
use Rattle.engine_laws.proofs.Sound.{sound_engine}

module _ (m : Bool) (u : ℕ) where
  onward_in : (n : ℕ) (l : ℤ) (b : Bench) (s : Steps) → onward n l (in_engine m b) (steps_in m s) ≡ steps_in m (onward n l b s)
  onward_in zero l b s = refl
  onward_in (suc k) l b s = refl

  steps_in_lem : (b : Bench) (left : ℤ) (gs : List (Option Group)) → steps (in_engine m b) u left gs ≡ steps_in m (steps b u left gs)
  unfolding steps
  steps_in_lem b left [] = go (lt_z (pos 0) left)
    where
      pick : Bool → Bench → Steps
      pick c d = elim c [ true ↦ stopped SHORT d | false ↦ stopped 0 d ]

      go : (c : Bool) → pick c (in_engine m b) ≡ steps_in m (pick c b)
      go true = refl
      go false = refl
  steps_in_lem b left (g ∷ gs) = (λ i. pick (lt_z (pos 0) left) (in_engine m b) (first (group_tests g ++ grow_tests_lem m b u l i)) ((ap rest (grow_in m b u l) ∙ steps_in_lem (grow_by b u l) (left -ℤ l) gs) i)) ∙ go (lt_z (pos 0) left)
    where
      l : ℤ
      l = step_by left g

      n : ℕ
      n = first (group_tests g ++ grow_tests b u l)

      rest : Bench → Steps
      rest d = steps d u (left -ℤ l) gs

      pick : Bool → Bench → ℕ → Steps → Steps
      pick c d k s = elim c [ true ↦ onward k l d s | false ↦ stopped 0 d ]

      go : (c : Bool) → pick c (in_engine m b) n (steps_in m (rest (grow_by b u l))) ≡ steps_in m (pick c b n (rest (grow_by b u l)))
      go true = onward_in n l b (rest (grow_by b u l))
      go false = refl

  module _ (b : Bench) (l : ℤ) (gs : List (Option Group)) (room : ℕ) where
    number_in : recorded_no (in_engine m b) u l gs room ≡ recorded_no b u l gs room
    unfolding recorded_no recorded_tests
    number_in = λ i. or_else (first (unit_tests_lem m b u i ++ (lt_z l (pos 0), LENGTH) ∷ [])) (or_else (steps_in_lem b l gs i).number (first ((ltb room (length gs), SMALL) ∷ [])))

    all_in : (n : ℕ) (s : Steps) → all_or_none n (in_engine m b) (steps_in m s) ≡ steps_in m (all_or_none n b s)
    all_in zero s = refl
    all_in (suc k) s = refl

    pub recorded_engine : grow_recorded (in_engine m b) u l gs room ≡ steps_in m (grow_recorded b u l gs room)
    unfolding grow_recorded
    recorded_engine = (λ i. pick (sound_engine m b i) (in_engine m b) (all_or_none (number_in i) (in_engine m b) (steps_in_lem b l gs i))) ∙ go (sound b)
      where
        n : ℕ
        n = recorded_no b u l gs room

        pick : Bool → Bench → Steps → Steps
        pick c d s = elim c [ true ↦ s | false ↦ stopped BROKEN d ]

        go : (c : Bool) → pick c (in_engine m b) (all_or_none n (in_engine m b) (steps_in m (steps b u l gs))) ≡ steps_in m (pick c b (all_or_none n b (steps b u l gs)))
        go true = all_in n (steps b u l gs)
        go false = refl
