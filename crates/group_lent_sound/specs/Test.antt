-- The test of a sound group in words: of a growth its three words, of conflicts the head and what stands below the counts. Assumes nothing.
use Rattle.std.specs.Prelude.{ℕ, zero, suc, Bool, true, ◌&&◌, List, eqb, leb}
use Rattle.kinds.specs.Obstacles.{listable, is_stop}
use Rattle.bench_words.specs.Codec.{pick}
use Rattle.group_lent.specs.Groups.{entry_form, entry_at, stop_form, stop_at}
use Rattle.group_lent.specs.Place.{kind_in, length_in, flag_in, listed, stopped}

abbrev pub entry_fits : List ℕ → ℕ → Bool
entry_fits ws i = entry_form ws i && listable (entry_at ws i).obstacle

-- a stop, at a vertex of at least b
abbrev pub stop_fits : List ℕ → ℕ → ℕ → Bool
stop_fits ws b i = stop_form ws i && (is_stop (stop_at ws i).obstacle && leb b (stop_at ws i).vertex.0)

-- k of them from i on
unfoldable pub entries_fit : List ℕ → ℕ → ℕ → Bool
entries_fit ws i zero = true
entries_fit ws i (suc k) = entry_fits ws i && entries_fit ws (suc i) k

unfoldable pub stops_fit : List ℕ → ℕ → ℕ → ℕ → Bool
stops_fit ws b i zero = true
stops_fit ws b i (suc k) = stop_fits ws b i && stops_fit ws (suc (stop_at ws i).vertex.0) (suc i) k

abbrev pub growth_fits : List ℕ → Bool
growth_fits ws = leb (flag_in ws) 1

abbrev pub head_fits : List ℕ → Bool
head_fits ws = eqb (kind_in ws) 2 && (eqb (length_in ws) 0 && (eqb (flag_in ws) 0 && (leb (listed ws) 128 && leb (stopped ws) 128)))

unfoldable pub sound_in : List ℕ → Bool
sound_in ws = pick (eqb (kind_in ws) 1) (growth_fits ws) (head_fits ws && (entries_fit ws 0 (listed ws) && stops_fit ws 0 0 (stopped ws)))
