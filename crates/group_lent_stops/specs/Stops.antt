-- A stop comes to a group in words: the number, and the words after it, as words moved and stored in the words before it. Assumes nothing.
use Rattle.std.specs.Prelude.{ℕ, ◌+◌, ◌-◌, ◌*◌, ◌&&◌, List, ◌∷◌, eqb, ltb, length, take, drop, get_or, set}
use Rattle.std.proofs.lemmas.List.Edits.{sets}
use Rattle.bench_words.specs.Codec.{pick}
use Rattle.ledger_spec.specs.Groups.{front_of}
use Rattle.group_lent.specs.Forms.{same_hand, five, five_words, five_at}
use Rattle.group_lent.specs.declared.Five.{Five}
use Rattle.group_lent.specs.Place.{kind_in, listed, stopped, stops_in}
use Rattle.group_lent_takes.specs.After.{grown_words, head_words, listed_words}
use Rattle.group_lent.specs.Moves.{slid}

-- where stop p stands, and its obstacle's words
abbrev pub spot : ℕ → ℕ
spot p = 645 + p * 6

abbrev pub stop_five : List ℕ → ℕ → Five
stop_five ws p = five_at ws (spot p + 1)

-- how many stops stand before vertex v
unfoldable pub place_in : List ℕ → ℕ → ℕ
place_in ws v = length (front_of v (stops_in ws))

-- the k words from at on go to at + 6
unfoldable pub lifted : List ℕ → ℕ → ℕ → List ℕ
lifted ws at k = sets ws (at + 6) (take k (drop at ws))

-- ---- the words after

-- a growth becomes conflicts with the one stop
abbrev pub one_stop : List ℕ → Five → ℕ → List ℕ
one_stop ws f v = sets (sets ws 645 (v ∷ five_words f)) 0 (head_words 0 1)

-- it comes in at place p
abbrev pub inserted : List ℕ → Five → ℕ → ℕ → List ℕ
inserted ws f v p = set (sets (lifted ws (spot p) ((stopped ws - p) * 6)) (spot p) (v ∷ five_words f)) 4 (stopped ws + 1)

-- it comes for stop p
abbrev pub replaced : List ℕ → Five → ℕ → ℕ → List ℕ
replaced ws f v p = sets ws (spot p) (v ∷ five_words f)

-- it and stop p become a conflict, the last of the list, and stop p goes
abbrev pub pair_five : Five → Five → Five
pair_five f y = five 2 f.b f.c y.b y.c

abbrev pub joined : List ℕ → Five → ℕ → List ℕ
joined ws f p =
    set (set (slid (sets ws (5 + listed ws * 5) (five_words (pair_five f (stop_five ws p)))) (spot p) ((stopped ws - 1 - p) * 6)) 3 (listed ws + 1)) 4 (stopped ws - 1)

-- ---- number and words

unfoldable pub meet_out : List ℕ → Five → ℕ → ℕ → ℕ × List ℕ
meet_out ws f v p =
    pick (eqb f.kind 5) (0, ws)
    (pick (eqb (stop_five ws p).kind 5) (0, replaced ws f v p)
    (pick (same_hand f.b (stop_five ws p).b) (0, ws)
    (pick (ltb (listed ws) 128) (0, joined ws f p) (20, ws))))

unfoldable pub place_out : List ℕ → Five → ℕ → ℕ → ℕ × List ℕ
place_out ws f v p =
    pick (ltb p (stopped ws) && eqb (get_or ws (spot p) 0) v)
    (meet_out ws f v p)
    (pick (ltb (stopped ws) 128) (0, inserted ws f v p) (20, ws))

unfoldable pub stop_out : List ℕ → Five → ℕ → ℕ × List ℕ
stop_out ws f v = pick (eqb (kind_in ws) 1) (0, one_stop ws f v) (place_out ws f v (place_in ws v))

-- ---- any obstacle

unfoldable pub added_words : List ℕ → Five → ℕ → List ℕ
added_words ws f v = pick (eqb f.kind 1) (grown_words ws f) (pick (ltb f.kind 5) (listed_words ws f) (stop_out ws f v).1)
