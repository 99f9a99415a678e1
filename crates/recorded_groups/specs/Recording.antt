-- A recording as lent words: its groups one after the other, 1413 words each; what is left of fewer words at the end is a broken group. Assumes nothing.
use Rattle.std.specs.Prelude.{ℕ, zero, suc, ◌&&◌, List, [], ◌∷◌, eqb, leb, length, take, drop, None, Option, Some}
use Rattle.bench_words.specs.Codec.{pick}
use Rattle.ledger_spec.specs.Groups.{Group, growth}
use Rattle.group_lent.specs.Forms.{length_of}
use Rattle.group_lent.specs.Place.{group_in}
use Rattle.group_lent_sound.specs.Test.{sound_in}

-- a growth by its words for length and flag, which is 0 or 1
abbrev pub growth_played : ℕ → ℕ → Option Group
growth_played n f = pick (leb f 1) (Some (growth (length_of n) (eqb f 1))) None

-- the group that words hold, none where they hold no sound one
unfoldable pub played : List ℕ → Option Group
played w = pick (eqb (length w) 1413 && sound_in w) (Some (group_in w)) None

-- at most k groups
unfoldable pub recording_in : ℕ → List ℕ → List (Option Group)
recording_in zero ws = []
recording_in (suc k) [] = []
recording_in (suc k) (w ∷ ws) = played (take 1413 (w ∷ ws)) ∷ recording_in k (drop 1413 (w ∷ ws))

-- all of them
unfoldable pub recording_of : List ℕ → List (Option Group)
recording_of ws = recording_in (length ws) ws
