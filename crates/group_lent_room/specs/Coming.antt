-- What a stop that comes to pending stops makes of the counts: 0, nothing; 1, a stop more; 2, a stop less and an entry more. First by the ledger's
-- lists, then by a group's words. Assumes nothing.
use Rattle.std.specs.Prelude.{None, Option, Some, ℕ, ◌+◌, ◌-◌, cond, ◌&&◌, List, [], ◌∷◌, eqb, ltb, get_or}
use Rattle.kinds.specs.declared.Pair.{Pair}
use Rattle.kinds.specs.Names.{same_code}
use Rattle.kinds.specs.Obstacles.{pair_of}
use Rattle.kinds.specs.declared.Stop.{Stop}
use Rattle.bench_words.specs.Codec.{pick}
use Rattle.group_lent.specs.Forms.{same_hand}
use Rattle.group_lent.specs.Place.{stopped}
use Rattle.group_lent.specs.declared.Five.{Five}
use Rattle.group_lent_stops.specs.Stops.{spot, stop_five, place_in}

-- by the pairs of the new stop and of the one that is pending at its vertex
unfoldable pub meets : Option Pair → Option Pair → ℕ
meets None q = 0
meets (Some p) None = 0
meets (Some p) (Some q) = cond (same_code p.node q.node) 0 2

-- by the stops that are not below its vertex
unfoldable pub comes : Stop → List Stop → ℕ
comes x [] = 1
comes x (y ∷ b) = cond (eqb y.vertex.0 x.vertex.0) (meets (pair_of x.obstacle) (pair_of y.obstacle)) 1

-- the counts after it
abbrev pub listed_by : ℕ → ℕ → ℕ
listed_by d n = pick (eqb d 2) (n + 1) n

abbrev pub stopped_by : ℕ → ℕ → ℕ
stopped_by d n = pick (eqb d 1) (n + 1) (pick (eqb d 2) (n - 1) n)

-- ---- in words: a stop with words f, at vertex v

unfoldable pub coming_at : List ℕ → Five → ℕ → ℕ → ℕ
coming_at ws f v p =
    pick (ltb p (stopped ws) && eqb (get_or ws (spot p) 0) v)
    (pick (eqb f.kind 5) 0 (pick (eqb (stop_five ws p).kind 5) 0 (pick (same_hand f.b (stop_five ws p).b) 0 2)))
    1

abbrev pub coming_in : List ℕ → Five → ℕ → ℕ
coming_in ws f v = coming_at ws f v (place_in ws v)
