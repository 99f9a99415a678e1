-- What the watched patch sees of such a run by the plain ledger; and that it is what it sees alone. Assumes nothing.
use Prim.Native.Nat.{ℕ, ◌<◌, ◌^◌}
use mathlib.Core.Path.{◌≡◌, refl, ap, ap₂}
use mathlib.Core.Logic.{◌≢◌}
use mathlib.Core.List.{List, [], ◌∷◌, map}
use lib.ListN.{length}
use lib.IntN.{ℤ, nat_abs}
use lib.Seq.{sets}
use Rattle.ledger_spec.specs.Answers.{answer}
use Rattle.recorded_groups.specs.Recording.{recording_of}
use Rattle.patch_laws.specs.Patch.{Patch, Apart, units_named, units_of}
use Rattle.patch_laws.specs.Runs.{Side, answer_to, after, seen, told, theirs, ours, asked, opened}
use Rattle.patch_laws.specs.Statement.{read_of}
use Rattle.patch_laws.proofs.Links.{Link, theirs_link, ours_link, ours_seen}
use Rattle.patch_laws.proofs.Told.{told_same}
use Rattle.patch_laws.proofs.Patches.{each, opened_link}
use Rattle.patch_recorded.specs.Plays.{Recording, grown, after_growth}
use Rattle.patch_recorded.proofs.Plays.{theirs_grown, grown_same, ours_grown}
use Rattle.patch_played.specs.Played.{Lent, Turn, step, their_growth, our_growth, Sight, saw, wrote, own_turns, AllTurn, AllFresh}

-- the recording that the words hold, with the slice's room
abbrev pub plainly : Lent → Recording
plainly g = record { unit = g.unit; by = g.by; groups = recording_of g.groups; room = length g.slice }

abbrev pub writes : Lent → ℕ → List ℤ → Sight
writes g n ls = wrote n (length ls) (sets g.slice 0 (map nat_abs ls))

unfoldable pub sights : Side → List Turn → List Sight
sights k [] = []
sights k (step (theirs c) ∷ xs) = sights (record { bench = (answer k.bench c).bench; table = k.table }) xs
sights k (step (ours c) ∷ xs) = saw (seen k c) ∷ sights (after k c) xs
sights k (step (asked r) ∷ xs) = saw (told k r) ∷ sights k xs
sights k (their_growth g ∷ xs) = sights (after_growth k (plainly g)) xs
sights k (our_growth g ∷ xs) = writes g (grown k (plainly g)).number (grown k (plainly g)).lengths ∷ sights (after_growth k (plainly g)) xs

module _ (a p : Patch) (apart : Apart a p) where
  alone : (ρ : ℕ → ℕ) (k₀ k : Side) → Link p ρ k₀ k → (xs : List Turn) → AllTurn a p xs → AllFresh (sights k xs) → sights k xs ≡ sights k₀ (own_turns xs)
  unfolding sights own_turns
  alone ρ k₀ k L [] fit w = refl
  alone ρ k₀ k L (step (theirs c) ∷ xs) fit w = alone _ k₀ (record { bench = (answer k.bench c).bench; table = k.table }) (theirs_link a p apart ρ k₀ k L c (each a (units_named c) fit.0)) xs fit.1 w
  alone ρ k₀ k L (step (ours c) ∷ xs) fit w = let q : (answer_to k c).number ≢ 15 = unfold seen in w.0 in
      ap₂ ◌∷◌ (ap saw (ours_seen p ρ k₀ k L c (each p (units_of c) fit.0) q))
      (alone ρ (after k₀ c) (after k c) (ours_link p ρ k₀ k L c (each p (units_of c) fit.0) q) xs fit.1 w.1)
  alone ρ k₀ k L (step (asked r) ∷ xs) fit w = ap₂ ◌∷◌ (ap saw (told_same p ρ k₀ k L r (each p (read_of r) fit.0))) (alone ρ k₀ k L xs fit.1 w.1)
  alone ρ k₀ k L (their_growth g ∷ xs) fit w = let t = theirs_grown a p apart ρ k₀ k L (plainly g) (each a (g.unit ∷ []) fit.0) in alone t.0 k₀ (after_growth k (plainly g)) t.1 xs fit.1 w
  alone ρ k₀ k L (our_growth g ∷ xs) fit w =
      let e = each p (g.unit ∷ []) fit.0 in
      let s = grown_same p ρ k₀ k L (plainly g) e in
      ap₂ ◌∷◌ (ap₂ (writes g) s.0 s.1) (alone ρ (after_growth k₀ (plainly g)) (after_growth k (plainly g)) (ours_grown p ρ k₀ k L (plainly g) e) xs fit.1 w.1)

  pub as_alone : (n : ℕ) → n < 2 ^ 32 → (xs : List Turn) → AllTurn a p xs → AllFresh (sights (opened n) xs) → sights (opened n) xs ≡ sights (opened 1) (own_turns xs)
  as_alone n h xs fit w = alone _ (opened 1) (opened n) (opened_link p n h) xs fit w
