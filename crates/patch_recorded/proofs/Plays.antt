-- Ask 13 with growth over recordings: the link between the patch alone and the patch on a shared bench is kept by such a growth of either patch, which is one
-- growth or none, and the watched one's shows it the same. Assumes nothing.
use Prim.Native.Nat.{ℕ, ◌<◌, ◌^◌}
use mathlib.Core.Path.{◌≡◌, refl, sym, ◌∙◌, ap, ap₂, subst, subst₂}
use mathlib.Core.Logic.{◌≢◌, by_cases}
use mathlib.Core.Bool.{Bool, true, false}
use mathlib.Core.List.{List, [], ◌∷◌, append-nil}
use native.Mathlib.Omega.{arith}
use native.Mathlib.Decide.{ℕ_discrete}
use lib.IntN.{ℤ, pos}
use Rattle.ledger_spec.specs.Bench.{Bench}
use Rattle.ledger_spec.specs.Tests.{first}
use Rattle.ledger_spec.specs.Refuse.{unit_tests, grow_tests}
use Rattle.ledger_spec.specs.Calls.{Call}
use Rattle.ledger_spec.specs.Answers.{answer}
use Rattle.ledger_spec.specs.Sound.{sound}
use Rattle.ledger_spec.proofs.Holds.{holds}
use Rattle.ledger_laws.proofs.Answered.{tests_of, answer_number}
use Rattle.recorded_spec.proofs.Whole.{one_growth}
use Rattle.patch_laws.specs.Patch.{Patch, Apart, Script, Table, written, units_named, units_of}
use Rattle.patch_laws.specs.Runs.{Side, answer_to, after, seen, theirs, ours, asked, opened}
use Rattle.patch_laws.specs.Statement.{read_of}
use Rattle.patch_laws.proofs.Alike.{Each}
use Rattle.patch_laws.proofs.Links.{Link, theirs_link, ours_turn, ours_link, ours_seen}
use Rattle.patch_laws.proofs.Told.{told_same}
use Rattle.patch_laws.proofs.Patches.{each, opened_link}
use Rattle.patch_recorded.specs.Plays.{Recording, Play, step, their_growth, our_growth, saw, grew, grown, after_growth, sights, own_plays, AllPlay, AllFresh, TwoPlays}
use Rattle.patch_recorded.proofs.Same.{grown_alike, growth_refused}

-- ---- a growth over a recording is one growth, or none
as_grow : (k : Side) (g : Recording) → (grown k g).number ≡ 0 → (grown k g).bench ≡ (answer k.bench (Call.Grow g.unit g.by)).bench
as_grow k g z = (one_growth k.bench g.unit g.by g.groups g.room z).1

as_none : (k : Side) (g : Recording) → (grown k g).number ≢ 0 → (grown k g).bench ≡ k.bench
as_none k g z = growth_refused k.bench g.unit g.by g.groups g.room z

-- neither test of a growth gives WORN
never_worn : (s t x y : Bool) → first ((s, 3) ∷ (t, 4) ∷ (x, 5) ∷ (y, 25) ∷ []) ≢ 15
unfolding first
never_worn true t x y e = omega (arith, e)
never_worn false true x y e = omega (arith, e)
never_worn false false true y e = omega (arith, e)
never_worn false false false true e = omega (arith, e)
never_worn false false false false e = omega (arith, e)

never_late : (s t : Bool) → first ((s, 3) ∷ (t, 4) ∷ []) ≢ 15
unfolding first
never_late true t e = omega (arith, e)
never_late false true e = omega (arith, e)
never_late false false e = omega (arith, e)

-- ---- the other patch's
moved : (p : Patch) (σ : ℕ → ℕ) (k₀ k : Side) (b d : Bench) → b ≡ d → Link p σ k₀ (record { bench = b; table = k.table }) → Link p σ k₀ (record { bench = d; table = k.table })
moved p σ k₀ k b d e L = subst (λ (x : Bench). Link p σ k₀ (record { bench = x; table = k.table })) e L

pub theirs_grown : (a p : Patch) → Apart a p → (ρ : ℕ → ℕ) (k₀ k : Side) → Link p ρ k₀ k → (g : Recording) → Each a (g.unit ∷ []) → (σ : ℕ → ℕ) × Link p σ k₀ (after_growth k g)
theirs_grown a p apart ρ k₀ k L g w = by_cases (ℕ_discrete (grown k g).number 0)
    (λ (z : (grown k g).number ≡ 0). (_, moved p _ k₀ k _ _ (sym (as_grow k g z)) (theirs_link a p apart ρ k₀ k L (Call.Grow g.unit g.by) w)))
    (λ (z : (grown k g).number ≡ 0 → ⊥). (ρ, moved p ρ k₀ k _ _ (sym (as_none k g z)) L))

-- ---- the watched patch's
module _ (p : Patch) (ρ : ℕ → ℕ) (k₀ k : Side) (L : Link p ρ k₀ k) (g : Recording) (w : Each p (g.unit ∷ [])) where
  sound_here : sound k.bench ≡ true
  sound_here = holds k.bench L.sound

  sound_alone : sound k₀.bench ≡ true
  sound_alone = holds k₀.bench L.sound₀

  tests_same : (l : ℤ) → first (grow_tests k.bench g.unit l) ≡ first (grow_tests k₀.bench g.unit l)
  unfolding tests_of written grow_tests
  tests_same l = sym (answer_number k.bench (Call.Grow g.unit l) sound_here)
      ∙ (ours_turn p ρ k₀ k L (Script.Grow g.unit l) w (λ e. never_worn _ _ _ _ (sym (answer_number k.bench (Call.Grow g.unit l) sound_here) ∙ e))).number
      ∙ answer_number k₀.bench (Call.Grow g.unit l) sound_alone

  units_same : first (unit_tests k.bench g.unit) ≡ first (unit_tests k₀.bench g.unit)
  unfolding tests_of written unit_tests
  units_same = sym (answer_number k.bench (Call.Clear g.unit) sound_here)
      ∙ (ours_turn p ρ k₀ k L (Script.Clear g.unit) w (λ e. never_late _ _ (sym (answer_number k.bench (Call.Clear g.unit) sound_here) ∙ e))).number
      ∙ answer_number k₀.bench (Call.Clear g.unit) sound_alone

  pub grown_same : ((grown k g).number ≡ (grown k₀ g).number) × ((grown k g).lengths ≡ (grown k₀ g).lengths)
  grown_same = grown_alike k.bench k₀.bench sound_here sound_alone g.unit units_same (λ n. tests_same (pos n)) g.by g.groups g.room

  -- a growth hands out no handle
  by_grow : (j : Side) → (grown j g).number ≡ 0 → after j (Script.Grow g.unit g.by) ≡ after_growth j g
  unfolding after written
  by_grow j z = ap₂ (λ (b : Bench) (t : Table). record { bench = b; table = t }) (sym (as_grow j g z)) (append-nil j.table)

  accepted : (grown k g).number ≡ 0 → (answer_to k (Script.Grow g.unit g.by)).number ≡ 0
  unfolding written
  accepted z = (one_growth k.bench g.unit g.by g.groups g.room z).0

  pub ours_grown : Link p ρ (after_growth k₀ g) (after_growth k g)
  ours_grown = by_cases (ℕ_discrete (grown k g).number 0)
      (λ (z : (grown k g).number ≡ 0). subst₂ (Link p ρ) (by_grow k₀ (sym grown_same.0 ∙ z)) (by_grow k z) (ours_link p ρ k₀ k L (Script.Grow g.unit g.by) w (λ e. omega (arith, e, accepted z))))
      (λ (z : (grown k g).number ≡ 0 → ⊥). subst₂ (Link p ρ) (ap (λ (b : Bench). record { bench = b; table = k₀.table }) (sym (as_none k₀ g (λ e. z (grown_same.0 ∙ e))))) (ap (λ (b : Bench). record { bench = b; table = k.table }) (sym (as_none k g z))) L)

-- ---- a run, step by step
module _ (a p : Patch) (apart : Apart a p) where
  pub alone : (ρ : ℕ → ℕ) (k₀ k : Side) → Link p ρ k₀ k → (xs : List Play) → AllPlay a p xs → AllFresh (sights k xs) → sights k xs ≡ sights k₀ (own_plays xs)
  unfolding sights own_plays
  alone ρ k₀ k L [] fit w = refl
  alone ρ k₀ k L (step (theirs c) ∷ xs) fit w = alone _ k₀ (record { bench = (answer k.bench c).bench; table = k.table }) (theirs_link a p apart ρ k₀ k L c (each a (units_named c) fit.0)) xs fit.1 w
  alone ρ k₀ k L (step (ours c) ∷ xs) fit w = let q : (answer_to k c).number ≢ 15 = unfold seen in w.0 in
      ap₂ ◌∷◌ (ap saw (ours_seen p ρ k₀ k L c (each p (units_of c) fit.0) q))
      (alone ρ (after k₀ c) (after k c) (ours_link p ρ k₀ k L c (each p (units_of c) fit.0) q) xs fit.1 w.1)
  alone ρ k₀ k L (step (asked r) ∷ xs) fit w = ap₂ ◌∷◌ (ap saw (told_same p ρ k₀ k L r (each p (read_of r) fit.0))) (alone ρ k₀ k L xs fit.1 w.1)
  alone ρ k₀ k L (their_growth g ∷ xs) fit w = let t = theirs_grown a p apart ρ k₀ k L g (each a (g.unit ∷ []) fit.0) in alone t.0 k₀ (after_growth k g) t.1 xs fit.1 w
  alone ρ k₀ k L (our_growth g ∷ xs) fit w =
      let e = each p (g.unit ∷ []) fit.0 in
      let s = grown_same p ρ k₀ k L g e in
      ap₂ ◌∷◌ (ap₂ grew s.0 s.1) (alone ρ (after_growth k₀ g) (after_growth k g) (ours_grown p ρ k₀ k L g e) xs fit.1 w.1)

pub as_alone : (a p : Patch) → Apart a p → (n : ℕ) → n < 2 ^ 32 → (xs : List Play) → AllPlay a p xs → AllFresh (sights (opened n) xs) → sights (opened n) xs ≡ sights (opened 1) (own_plays xs)
as_alone a p apart n h xs fit w = alone a p apart _ (opened 1) (opened n) (opened_link p n h) xs fit w

pub two_plays : TwoPlays
two_plays a p apart m n hm hn xs ys fx fy e wx wy = as_alone a p apart m hm xs fx wx ∙ ap (sights (opened 1)) e ∙ sym (as_alone a p apart n hn ys fy wy)
