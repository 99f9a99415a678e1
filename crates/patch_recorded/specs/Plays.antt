-- Ask 13 with growth over recordings among the steps: two patches share a bench, each may grow against recorded groups (ask 10), and neither disturbs what the
-- other sees. Assumes nothing.
use Rattle.std.specs.Prelude.{ℕ, ◌<◌, ◌^◌, ◌≡◌, ◌≢◌, List, [], ◌∷◌, ℤ, Option}
use Rattle.ledger_spec.specs.Numbers.{WORN}
use Rattle.ledger_spec.specs.Groups.{Group}
use Rattle.ledger_spec.specs.Answers.{answer}
use Rattle.recorded_spec.specs.Recorded.{Steps, grow_recorded}
use Rattle.patch_laws.specs.Patch.{Patch, Apart, Within}
use Rattle.patch_laws.specs.Runs.{Seen, number_of, Side, after, seen, told, Step, theirs, ours, asked, opened}
use Rattle.patch_laws.specs.Statement.{Fits}

-- a growth over a recording: handles in its groups are not looked at, so that they need no numbers
pub record Recording : Type 0 where
  pub unit : ℕ
  pub by : ℤ
  pub groups : List (Option Group)
  pub room : ℕ

pub data Play : Type 0 where
  step : Step → Play
  their_growth : Recording → Play
  our_growth : Recording → Play

-- what the watched patch sees: as before, or a number and the lengths of the steps
pub data Sight : Type 0 where
  saw : Seen → Sight
  grew : (number : ℕ) (lengths : List ℤ) → Sight

abbrev pub grown : Side → Recording → Steps
grown k g = grow_recorded k.bench g.unit g.by g.groups g.room

-- the handles that the patch was given stay
abbrev pub after_growth : Side → Recording → Side
after_growth k g = record { bench = (grown k g).bench; table = k.table }

unfoldable pub sights : Side → List Play → List Sight
sights k [] = []
sights k (step (theirs c) ∷ xs) = sights (record { bench = (answer k.bench c).bench; table = k.table }) xs
sights k (step (ours c) ∷ xs) = saw (seen k c) ∷ sights (after k c) xs
sights k (step (asked r) ∷ xs) = saw (told k r) ∷ sights k xs
sights k (their_growth g ∷ xs) = sights (after_growth k g) xs
sights k (our_growth g ∷ xs) = grew (grown k g).number (grown k g).lengths ∷ sights (after_growth k g) xs

-- the watched patch's own steps
unfoldable pub own_plays : List Play → List Play
own_plays [] = []
own_plays (step (theirs c) ∷ xs) = own_plays xs
own_plays (step (ours c) ∷ xs) = step (ours c) ∷ own_plays xs
own_plays (step (asked r) ∷ xs) = step (asked r) ∷ own_plays xs
own_plays (their_growth g ∷ xs) = own_plays xs
own_plays (our_growth g ∷ xs) = our_growth g ∷ own_plays xs

-- a step names interfaces of its own patch only
abbrev pub PlayFits : Patch → Patch → Play → Type 0
PlayFits a p (step x) = Fits a p x
PlayFits a p (their_growth g) = Within a (g.unit ∷ [])
PlayFits a p (our_growth g) = Within p (g.unit ∷ [])

abbrev pub AllPlay : Patch → Patch → List Play → Type 0
AllPlay a p [] = Unit {0}
AllPlay a p (x ∷ xs) = PlayFits a p x × AllPlay a p xs

-- no answer to the watched patch is WORN; a growth over a recording never is
abbrev pub FreshSight : Sight → Type 0
FreshSight (saw s) = number_of s ≢ WORN
FreshSight (grew n ls) = Unit {0}

abbrev pub AllFresh : List Sight → Type 0
AllFresh [] = Unit {0}
AllFresh (x ∷ xs) = FreshSight x × AllFresh xs

-- two runs from set-up, with any first serials, whose watched patch makes the same calls, reads and recorded growths, show it the same
abbrev pub TwoPlays : Type 0
TwoPlays =
    (a p : Patch) → Apart a p → (m n : ℕ) → m < 2 ^ 32 → n < 2 ^ 32 → (xs ys : List Play) → AllPlay a p xs → AllPlay a p ys
    → own_plays xs ≡ own_plays ys → AllFresh (sights (opened m) xs) → AllFresh (sights (opened n) ys) → sights (opened m) xs ≡ sights (opened n) ys
