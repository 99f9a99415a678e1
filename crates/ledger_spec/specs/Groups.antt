-- Obstacle groups: a growth (length, flag), or conflicts, a list and pending stops by vertex. What each call does to one, and when there is no
-- room. A length is the ℤ that a contract has for an `i64`; obstacles are those of crate `kinds`. Assumes nothing.
use Rattle.std.specs.Prelude.{None, Option, Some, ℕ, suc, Bool, true, false, cond, ◌&&◌, ◌||◌, List, [], ◌∷◌, ◌++◌, length, drop, eqb, leb, ltb, ℤ, pos, negsuc}
use Rattle.kinds.specs.declared.Pair.{Pair}
use Rattle.std.specs.Int.Signed.{lt_z}
use Rattle.kinds.specs.Names.{same_code}
use Rattle.kinds.specs.Obstacles.{listable, is_stop, pair_of}
use Rattle.kinds.specs.declared.Entry.{Entry}
use Rattle.kinds.specs.declared.Stop.{Stop}
use Rattle.kinds.specs.declared.Obstacle.{Obstacle}
use Rattle.kinds.specs.declared.Obstacle.TheVariants.{NonZeroGrow, Conflicting, TouchingVirtual, BlossomNeedExpand, VertexShrinkStop}
use Rattle.ledger_spec.specs.Numbers.{group_limit}

pub data Group : Type 0 where
  growth : (length : ℤ) (flag : Bool) → Group
  conflicts : (list : List Entry) (stops : List Stop) → Group

abbrev pub largest : ℤ
largest = pos 9223372036854775807

abbrev pub empty_group : Group
empty_group = growth largest false

abbrev pub eq_z : ℤ → ℤ → Bool
eq_z (pos a) (pos b) = eqb a b
eq_z (pos a) (negsuc b) = false
eq_z (negsuc a) (pos b) = false
eq_z (negsuc a) (negsuc b) = eqb a b

-- ---- a sound group: at most 128 of each, no growth or stop in the list, only stops pending, by strictly rising vertex

unfoldable pub all_listable : List Entry → Bool
all_listable [] = true
all_listable (e ∷ es) = listable e.obstacle && all_listable es

-- only stops, each at a vertex of at least v
unfoldable pub rising_from : ℕ → List Stop → Bool
rising_from v [] = true
rising_from v (s ∷ ss) = is_stop s.obstacle && (leb v s.vertex.0 && rising_from (suc s.vertex.0) ss)

unfoldable pub sound_group : Group → Bool
sound_group (growth n f) = true
sound_group (conflicts es ss) = leb (length es) group_limit && (leb (length ss) group_limit && (all_listable es && rising_from 0 ss))

-- ---- add: none where list or stops would pass 128

-- a list and stops
abbrev pub Lists : Type 0
Lists = List Entry × List Stop

unfoldable pub room_for : List Entry → List Stop → Option Lists
room_for es ss = cond (leb (length es) group_limit && leb (length ss) group_limit) (Some (es, ss)) None

-- the stops at the front whose vertex is below v, and the others
unfoldable pub front_of : ℕ → List Stop → List Stop
front_of v [] = []
front_of v (s ∷ ss) = cond (ltb s.vertex.0 v) (s ∷ front_of v ss) []

unfoldable pub back_of : ℕ → List Stop → List Stop
back_of v [] = []
back_of v (s ∷ ss) = cond (ltb s.vertex.0 v) (back_of v ss) (s ∷ ss)

-- stop x comes to a vertex where y is pending, by their pairs; fs and bs are the stops before and after y
unfoldable pub meet : Option Pair → Option Pair → Stop → Stop → List Entry → List Stop → List Stop → Option Lists
meet None q x y es fs bs = room_for es (fs ++ y ∷ bs)
meet (Some p) None x y es fs bs = room_for es (fs ++ x ∷ bs)
meet (Some p) (Some q) x y es fs bs =
    cond (same_code p.node q.node) (room_for es (fs ++ y ∷ bs)) (room_for (es ++ record { obstacle = Conflicting p q } ∷ []) (fs ++ bs))

unfoldable pub placed : Stop → List Entry → List Stop → List Stop → Option Lists
placed x es fs [] = room_for es (fs ++ x ∷ [])
placed x es fs (y ∷ bs) =
    cond (eqb y.vertex.0 x.vertex.0) (meet (pair_of x.obstacle) (pair_of y.obstacle) x y es fs bs) (room_for es (fs ++ x ∷ y ∷ bs))

unfoldable pub add_stop : Stop → List Entry → List Stop → Option Lists
add_stop x es ss = placed x es (front_of x.vertex.0 ss) (back_of x.vertex.0 ss)

abbrev pub smaller : ℤ → ℤ → ℤ
smaller n n' = cond (lt_z n' n) n' n

abbrev pub grouped : Option Lists → Option Group
grouped None = None
grouped (Some ls) = Some (conflicts ls.0 ls.1)

-- o is added, v being the first vertex of a stop's node: to a growth, to conflicts
unfoldable pub add_to_growth : ℤ → Bool → Obstacle → ℕ → Option Group
add_to_growth n f (NonZeroGrow n' f') v = Some (growth (smaller n n') (f || f'))
add_to_growth n f (Conflicting p q) v = Some (conflicts (record { obstacle = Conflicting p q } ∷ []) [])
add_to_growth n f (TouchingVirtual p w m) v = Some (conflicts (record { obstacle = TouchingVirtual p w m } ∷ []) [])
add_to_growth n f (BlossomNeedExpand h) v = Some (conflicts (record { obstacle = BlossomNeedExpand h } ∷ []) [])
add_to_growth n f (VertexShrinkStop h p) v = Some (conflicts [] (record { vertex = record { 0 = v }; obstacle = VertexShrinkStop h p } ∷ []))

unfoldable pub add_to_conflicts : List Entry → List Stop → Obstacle → ℕ → Option Group
add_to_conflicts es ss (NonZeroGrow n f) v = Some (conflicts es ss)
add_to_conflicts es ss (Conflicting p q) v = grouped (room_for (es ++ record { obstacle = Conflicting p q } ∷ []) ss)
add_to_conflicts es ss (TouchingVirtual p w m) v = grouped (room_for (es ++ record { obstacle = TouchingVirtual p w m } ∷ []) ss)
add_to_conflicts es ss (BlossomNeedExpand h) v = grouped (room_for (es ++ record { obstacle = BlossomNeedExpand h } ∷ []) ss)
add_to_conflicts es ss (VertexShrinkStop h p) v = grouped (add_stop (record { vertex = record { 0 = v }; obstacle = VertexShrinkStop h p }) es ss)

unfoldable pub added : Group → Obstacle → ℕ → Option Group
added (growth n f) o v = add_to_growth n f o v
added (conflicts es ss) o v = add_to_conflicts es ss o v

-- ---- extend

-- the smaller of two pairs: length first, then no before yes
unfoldable pub smaller_pair : ℤ → Bool → ℤ → Bool → Group
smaller_pair n f n' f' = cond (lt_z n' n) (growth n' f') (cond (lt_z n n') (growth n f) (growth n (f && f')))

-- stops added one after the other, each under the vertex it was kept by, as long as there is room
abbrev pub and_then : Option Lists → (List Entry → List Stop → Option Lists) → Option Lists
and_then None next = None
and_then (Some ls) next = next ls.0 ls.1

unfoldable pub add_stops : List Stop → List Entry → List Stop → Option Lists
add_stops [] es ss = Some (es, ss)
add_stops (x ∷ xs) es ss = and_then (add_stop x es ss) (add_stops xs)

unfoldable pub extended : Group → Group → Option Group
extended (growth n f) (growth n' f') = Some (cond (eq_z n' largest) (growth n f) (smaller_pair n f n' f'))
extended (growth n f) (conflicts es ss) = Some (conflicts es ss)
extended (conflicts es ss) (growth n f) = Some (conflicts es ss)
extended (conflicts es ss) (conflicts es' ss') = grouped (and_then (room_for (es ++ es') ss) (add_stops ss'))

-- ---- pop and peek of conflicts

-- the last of the list; where it is empty, the stop of smallest vertex; where there is none, nothing
unfoldable pub last_of : List Entry → List Stop → Option Obstacle
last_of [] [] = None
last_of [] (s ∷ ss) = Some s.obstacle
last_of (e ∷ []) ss = Some e.obstacle
last_of (e ∷ e' ∷ es) ss = last_of (e' ∷ es) ss

-- all but the last
unfoldable pub all_but_last : {A : Type 0} → List A → List A
all_but_last [] = []
all_but_last (x ∷ []) = []
all_but_last (x ∷ y ∷ ys) = x ∷ all_but_last (y ∷ ys)

-- the last of the list goes AND the stop of smallest vertex goes
abbrev pub popped : List Entry → List Stop → Group
popped es ss = conflicts (all_but_last es) (drop 1 ss)
