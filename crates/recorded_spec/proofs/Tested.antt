-- What a step is refused for on a bench that has grown already is what the growth in all is refused for on the bench before. Assumes nothing.
use Rattle.std.specs.Prelude.{None, Option, Some}
use Prim.Native.Nat.{ℕ, zero, suc, ◌+◌, ◌<◌}
use mathlib.Core.Path.{◌≡◌, refl, sym, ◌∙◌, ap, ap₂}
use mathlib.Core.Bool.{Bool, true, false, not, ◌||◌, true≢false}
use mathlib.Core.List.{List, [], ◌∷◌, ◌++◌}
use native.Mathlib.Omega.{arith}
use borrow.Author.Tests.{le-ltb}
use lib.IntN.{ℤ, pos, negsuc, ◌+ℤ◌, +ℤ_assoc}
use lib.Signed.{lt_z}
use Rattle.ledger_spec.specs.Numbers.{progress_limit, UNIT, CHILD, LENGTH, BELOW, NOTHING, STUCK}
use Rattle.ledger_spec.specs.Bench.{Bench}
use Rattle.ledger_spec.specs.Look.{interface}
use Rattle.ledger_spec.specs.Tests.{first, outside, is_some}
use Rattle.ledger_spec.specs.Refuse.{grow_tests}
use Rattle.ledger_spec.specs.Deeds.{grow_by}
use Rattle.ledger_spec.specs.Frame.{Frame}
use Rattle.ledger_spec.specs.Groups.{Group, growth, conflicts, largest, eq_z}
use Rattle.ledger_spec.proofs.TreeReadings.{grow_parent, grow_progress}
use Rattle.ledger_laws.proofs.Paced.{inside}
use Rattle.ledger_laws.proofs.Belows.{below_grown}
use Rattle.recorded_spec.specs.Recorded.{group_tests, or_else}

not_below : (d s : ℤ) → lt_z d (pos 0) ≡ false → lt_z s (pos 0) ≡ false → lt_z (d +ℤ s) (pos 0) ≡ false
not_below (pos x) (pos y) h k = le-ltb (x + y) 0 (omega arith)
not_below (pos x) (negsuc y) h k = absurd (true≢false k)
not_below (negsuc x) s h k = absurd (true≢false h)

module _ (b : Bench) (F : Frame b) (u : ℕ) (low : u < 8) (d s : ℤ) (ahead : lt_z d (pos 0) ≡ false) (on : lt_z s (pos 0) ≡ false) where
  far : lt_z s (pos 0) || lt_z (pos progress_limit) ((interface (grow_by b u d) u).progress +ℤ s) ≡ lt_z (d +ℤ s) (pos 0) || lt_z (pos progress_limit) ((interface b u).progress +ℤ (d +ℤ s))
  far = ap₂ ◌||◌ (on ∙ sym (not_below d s ahead on))
      (ap (lt_z (pos progress_limit)) (ap (λ (z : ℤ). z +ℤ s) (grow_progress b u d (inside b F low)) ∙ +ℤ_assoc (interface b u).progress d s))

  pub tests_grown : grow_tests (grow_by b u d) u s ≡ grow_tests b u (d +ℤ s)
  unfolding grow_tests
  tests_grown = λ i. (outside u, UNIT) ∷ (is_some (grow_parent b u d u i), CHILD) ∷ (far i, LENGTH) ∷ (below_grown b F u d s ahead on i, BELOW) ∷ []

-- a group's own tests come first
pub group_first : (g : Option Group) (ts : List (Bool × ℕ)) → first (group_tests g ++ ts) ≡ or_else (first (group_tests g)) (first ts)
unfolding first group_tests
group_first None ts = refl
group_first (Some (conflicts es ss)) ts = refl
group_first (Some (growth n f)) ts = go (eq_z n largest) (not (lt_z (pos 0) n))
  where
    go : (x y : Bool) → first ((x, NOTHING) ∷ (y, STUCK) ∷ ts) ≡ or_else (first ((x, NOTHING) ∷ (y, STUCK) ∷ [])) (first ts)
    go true y = refl
    go false true = refl
    go false false = refl
