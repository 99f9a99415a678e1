-- The same calls on any words: the promise of the call where all that was lent is sound, else BROKEN (2), and nothing that was lent changes. Assumes nothing.
use Rattle.std.specs.Prelude.{ℕ, ◌≡◌, Bool, true, ◌&&◌, List, [], ◌∷◌}
use Rattle.bench_words.specs.Codec.{pick}
use Rattle.ledger_spec.specs.Groups.{Group}
use Rattle.bench_views.specs.Fit.{SoundWords}
use Rattle.sound_bench.specs.Sound.{sound_words}
use Rattle.group_lent.specs.Forms.{is_form, five_at}
use Rattle.group_lent.specs.Place.{group_in, SoundGroup}
use Rattle.group_lent_sound.specs.Test.{sound_in}
use Rattle.group_lent_calls.specs.Calls.{Peeked, Popped, Spared, Added, Extended}

-- the test's verdict, and what it says of the words
pub record Judged (ws : List ℕ) (s : Bool) : Type 0 where
  pub is : s ≡ sound_in ws
  pub says : s ≡ true → SoundGroup ws

-- the verdict on the words of a bench and on those of a group
pub record Ready (b ws : List ℕ) (s : Bool) : Type 0 where
  pub is : s ≡ (sound_words b && sound_in ws)
  pub says : s ≡ true → SoundWords b × SoundGroup ws

-- a read f of the group in words, where z is its answer's value if refused
abbrev pub asked_of : {A : Type 0} → List ℕ → A → (Group → ℕ × A) → ℕ × A
asked_of ws z f = pick (sound_in ws) (f (group_in ws)) (2, z)

abbrev pub no_obstacle : List ℕ
no_obstacle = 0 ∷ 0 ∷ 0 ∷ 0 ∷ 0 ∷ []

abbrev pub PeekedAny : List ℕ → ℕ → List ℕ → Type 0
PeekedAny ws r os = pick (sound_in ws) (Peeked ws r os) ((r ≡ 2) × (os ≡ no_obstacle))

abbrev pub PoppedAny : List ℕ → ℕ → List ℕ → List ℕ → Type 0
PoppedAny ws r os after = pick (sound_in ws) (Popped ws r os after) ((r ≡ 2) × ((os ≡ no_obstacle) × (after ≡ ws)))

abbrev pub SparedAny : List ℕ → ℕ → List ℕ → List ℕ → Type 0
SparedAny ws r os after = pick (sound_in ws) (Spared ws r os after) ((r ≡ 2) × ((os ≡ no_obstacle) × (after ≡ ws)))

-- os are the obstacle's words: they must be an obstacle's
abbrev pub AddedAny : List ℕ → List ℕ → List ℕ → ℕ → List ℕ → Type 0
AddedAny b ws os r after = pick (sound_words b && (sound_in ws && is_form (five_at os 0))) (Added b ws (five_at os 0) r after) ((r ≡ 2) × (after ≡ ws))

-- vs are the other group's
abbrev pub ExtendedAny : List ℕ → List ℕ → List ℕ → ℕ → List ℕ → Type 0
ExtendedAny b ws vs r after = pick (sound_words b && (sound_in ws && sound_in vs)) (Extended b ws vs r after) ((r ≡ 2) × (after ≡ ws))
