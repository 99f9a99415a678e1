-- Pops that spare the stops, one after another: what n of them answer and leave; the obstacles of a group in the order in which they must come; and where
-- the two pops must agree. Assumes nothing.
use Rattle.std.specs.Prelude.{ℕ, zero, suc, Bool, true, false, List, [], ◌∷◌, ◌++◌, None, Option, Some}
use Rattle.kinds.specs.declared.Entry.{Entry}
use Rattle.kinds.specs.declared.Stop.{Stop}
use Rattle.kinds.specs.declared.Obstacle.{Obstacle}
use Rattle.ledger_spec.specs.Groups.{Group, growth, conflicts}
use Rattle.ledger_sparing.specs.Sparing.{pop_sparing}

-- a call's number and what it took
abbrev pub Answer : Type 0
Answer = ℕ × Option Obstacle

-- the answers of n calls, the first call's first, and the group after them
unfoldable pub answers : ℕ → Group → List Answer
answers zero g = []
answers (suc n) g = ((pop_sparing g).0, (pop_sparing g).1.0) ∷ answers n (pop_sparing g).1.1

unfoldable pub left : ℕ → Group → Group
left zero g = g
left (suc n) g = left n (pop_sparing g).1.1

-- a list's obstacles from its end; those of stops as they stand, which in a sound group is by rising vertex
unfoldable pub from_end : List Entry → List Obstacle
from_end [] = []
from_end (e ∷ es) = from_end es ++ e.obstacle ∷ []

unfoldable pub as_they_stand : List Stop → List Obstacle
as_they_stand [] = []
as_they_stand (s ∷ ss) = s.obstacle ∷ as_they_stand ss

-- every entry of conflicts, once
abbrev pub entries_of : List Entry → List Stop → List Obstacle
entries_of es ss = from_end es ++ as_they_stand ss

-- each of them as an accepted call's answer
unfoldable pub given_out : List Obstacle → List Answer
given_out [] = []
given_out (o ∷ os) = (0, Some o) ∷ given_out os

-- n accepted calls that took nothing
unfoldable pub nothings : ℕ → List Answer
nothings zero = []
nothings (suc n) = (0, None) ∷ nothings n

-- the list or the stops are empty, or it is a growth
unfoldable pub one_empty : Group → Bool
one_empty (growth n f) = true
one_empty (conflicts [] ss) = true
one_empty (conflicts (e ∷ es) []) = true
one_empty (conflicts (e ∷ es) (s ∷ ss)) = false
