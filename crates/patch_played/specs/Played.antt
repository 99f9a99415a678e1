-- A run of two patches over stored words with growths over recordings among its calls: each is lent the words that the one before left and meets its contract;
-- and what the watched patch sees of it. Assumes nothing.
use Rattle.std.specs.Prelude.{ℕ, ◌<◌, ◌^◌, ◌≡◌, ◌≢◌, List, [], ◌∷◌, ℤ}
use Rattle.ledger_spec.specs.Numbers.{WORN}
use Rattle.ledger_spec.specs.Calls.{Call}
use Rattle.sound_bench.specs.Sound.{sound_words}
use Rattle.call_set_up.specs.Opened.{Opened}
use Rattle.call_told.specs.declared.Answer.{Answer}
use Rattle.call_told.specs.Told.{Called}
use Rattle.recorded_steps.specs.declared.Passed.{Passed}
use Rattle.recorded_any.specs.Any.{RecordedAny}
use Rattle.patch_laws.specs.Patch.{Patch, Apart, Within, Script, Table, written}
use Rattle.patch_laws.specs.Runs.{Read, Seen, number_of, Step, theirs, ours, asked}
use Rattle.patch_laws.specs.Statement.{Fits}
use Rattle.patch_runs.specs.Woven.{table_after, seen_of, read_seen}

-- a growth over a recording: its groups' words, and the slice that is lent for the lengths
pub record Lent : Type 0 where
  pub unit : ℕ
  pub by : ℤ
  pub groups : List ℕ
  pub slice : List ℕ

pub data Turn : Type 0 where
  step : Step → Turn
  their_growth : Lent → Turn
  our_growth : Lent → Turn

-- what the watched patch sees: as before, or a number, how many groups were taken, and the slice
pub data Sight : Type 0 where
  saw : Seen → Sight
  wrote : (number taken : ℕ) (slice : List ℕ) → Sight

-- the public call, on words b
pub record Grew (b : List ℕ) (g : Lent) (r : Passed) (b' slice : List ℕ) : Type 0 where
  pub meets : RecordedAny b g.unit g.by g.groups g.slice r b' slice

-- from words b and the patch's handles t: the turns, and what the patch sees
pub data Played : List ℕ → Table → List Turn → List Sight → Type 0 where
  stop : {b : List ℕ} {t : Table} → Played b t [] []
  other : {b b' : List ℕ} {t : Table} {c : Call} {r : Answer} {xs : List Turn} {ys : List Sight} → Called (sound_words b) b c r b' → Played b' t xs ys → Played b t (step (theirs c) ∷ xs) ys
  call : {b b' : List ℕ} {t : Table} {c : Script} {r : Answer} {xs : List Turn} {ys : List Sight}
      → Called (sound_words b) b (written t c) r b' → Played b' (table_after t c r) xs ys → Played b t (step (ours c) ∷ xs) (saw (seen_of (table_after t c r) r) ∷ ys)
  read : {b : List ℕ} {t : Table} {q : Read} {xs : List Turn} {ys : List Sight} → Played b t xs ys → Played b t (step (asked q) ∷ xs) (saw (read_seen b t q) ∷ ys)
  other_growth : {b b' s : List ℕ} {t : Table} {g : Lent} {r : Passed} {xs : List Turn} {ys : List Sight} → Grew b g r b' s → Played b' t xs ys → Played b t (their_growth g ∷ xs) ys
  own_growth : {b b' s : List ℕ} {t : Table} {g : Lent} {r : Passed} {xs : List Turn} {ys : List Sight}
      → Grew b g r b' s → Played b' t xs ys → Played b t (our_growth g ∷ xs) (wrote r.number r.taken s ∷ ys)

-- the watched patch's own turns
unfoldable pub own_turns : List Turn → List Turn
own_turns [] = []
own_turns (step (theirs c) ∷ xs) = own_turns xs
own_turns (step (ours c) ∷ xs) = step (ours c) ∷ own_turns xs
own_turns (step (asked r) ∷ xs) = step (asked r) ∷ own_turns xs
own_turns (their_growth g ∷ xs) = own_turns xs
own_turns (our_growth g ∷ xs) = our_growth g ∷ own_turns xs

-- a turn names interfaces of its own patch only
abbrev pub TurnFits : Patch → Patch → Turn → Type 0
TurnFits a p (step x) = Fits a p x
TurnFits a p (their_growth g) = Within a (g.unit ∷ [])
TurnFits a p (our_growth g) = Within p (g.unit ∷ [])

abbrev pub AllTurn : Patch → Patch → List Turn → Type 0
AllTurn a p [] = Unit {0}
AllTurn a p (x ∷ xs) = TurnFits a p x × AllTurn a p xs

-- no answer to the watched patch is WORN; a growth over a recording never is
abbrev pub FreshSight : Sight → Type 0
FreshSight (saw s) = number_of s ≢ WORN
FreshSight (wrote n k s) = Unit {0}

abbrev pub AllFresh : List Sight → Type 0
AllFresh [] = Unit {0}
AllFresh (x ∷ xs) = FreshSight x × AllFresh xs

-- two runs from set-up's own words, with any first serials, whose watched patch makes the same calls, reads and recorded growths, show it the same
abbrev pub TwoPlayed : Type 0
TwoPlayed =
    (a p : Patch) → Apart a p → (m n : ℕ) → m < 2 ^ 32 → n < 2 ^ 32 → (b d : List ℕ) → Opened m b → Opened n d → (xs ys : List Turn) (zs ws : List Sight)
    → Played b [] xs zs → Played d [] ys ws → AllTurn a p xs → AllTurn a p ys → own_turns xs ≡ own_turns ys → AllFresh zs → AllFresh ws → zs ≡ ws
