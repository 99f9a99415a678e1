-- The calls on obstacle groups, for every group and bench: a number, the answer, and the group after it, which a refusal leaves as it was.
-- Add and extend are lent the bench, the others none. Assumes nothing.
use Rattle.std.specs.Prelude.{None, Option, Some, ℕ, Bool, true, false, cond, not, ◌&&◌, List, [], ◌∷◌, ◌++◌, ℤ}
use Rattle.kinds.specs.declared.Pair.{Pair}
use Rattle.kinds.specs.declared.Handle.{Handle as Code}
use Rattle.kinds.specs.declared.Entry.{Entry}
use Rattle.kinds.specs.declared.Stop.{Stop}
use Rattle.kinds.specs.declared.Obstacle.{Obstacle}
use Rattle.kinds.specs.declared.Obstacle.TheVariants.{NonZeroGrow, Conflicting, TouchingVirtual, BlossomNeedExpand, VertexShrinkStop}
use Rattle.ledger_spec.specs.Numbers.{BROKEN, STALE, KIND, ROOM, NOTHING}
use Rattle.ledger_spec.specs.Bench.{Bench}
use Rattle.ledger_spec.specs.Tests.{first, any, is_some, stale}
use Rattle.ledger_spec.specs.Reads.{said}
use Rattle.ledger_spec.specs.Walk.{first_vertex}
use Rattle.ledger_spec.specs.Sound.{sound}
use Rattle.ledger_spec.specs.Named.{handle_named}
use Rattle.ledger_spec.specs.Groups.{Group, growth, conflicts, largest, eq_z, sound_group, added, extended, last_of, popped}

-- ---- reads

abbrev pub is_largest : Group → Bool
is_largest (growth n f) = eq_z n largest
is_largest (conflicts es ss) = false

abbrev pub is_growth : Group → Bool
is_growth (growth n f) = true
is_growth (conflicts es ss) = false

-- all but (largest, no)
abbrev pub active : Group → Bool
active (growth n f) = cond (eq_z n largest) f true
active (conflicts es ss) = true

unfoldable pub group_tests : Group → List (Bool × ℕ)
group_tests g = (not (sound_group g), BROKEN) ∷ []

unfoldable pub is_empty : Group → ℕ × Bool
is_empty g = said (first (group_tests g)) (is_largest g) false

unfoldable pub is_active : Group → ℕ × Bool
is_active g = said (first (group_tests g)) (active g) false

-- the length of a growth; "none" of conflicts
abbrev pub length_in : Group → Option ℤ
length_in (growth n f) = Some n
length_in (conflicts es ss) = None

unfoldable pub growth_of : Group → ℕ × Option ℤ
growth_of g = said (first ((not (sound_group g), BROKEN) ∷ (is_largest g, NOTHING) ∷ [])) (length_in g) None

abbrev pub last_in : Group → Option Obstacle
last_in (growth n f) = None
last_in (conflicts es ss) = last_of es ss

unfoldable pub take_tests : Group → List (Bool × ℕ)
take_tests g = (not (sound_group g), BROKEN) ∷ (is_growth g, KIND) ∷ []

unfoldable pub peek : Group → ℕ × Option Obstacle
peek g = said (first (take_tests g)) (last_in g) None

-- ---- changes: number, answer, group

abbrev pub after_pop : Group → Group
after_pop (growth n f) = growth n f
after_pop (conflicts es ss) = popped es ss

unfoldable pub pop : Group → ℕ × (Option Obstacle × Group)
pop g = said (first (take_tests g)) (last_in g, after_pop g) (None, g)

-- the nodes that an obstacle names, and those of a group
abbrev pub pair_handles : Option Pair → List Code
pair_handles None = []
pair_handles (Some p) = p.node ∷ p.touching ∷ []

unfoldable pub handles_of : Obstacle → List Code
handles_of (NonZeroGrow n f) = []
handles_of (Conflicting p q) = p.node ∷ p.touching ∷ q.node ∷ q.touching ∷ []
handles_of (TouchingVirtual p v m) = p.node ∷ p.touching ∷ []
handles_of (BlossomNeedExpand h) = h ∷ []
handles_of (VertexShrinkStop h p) = h ∷ pair_handles p

unfoldable pub list_handles : List Entry → List Code
list_handles [] = []
list_handles (e ∷ es) = handles_of e.obstacle ++ list_handles es

unfoldable pub stop_handles : List Stop → List Code
stop_handles [] = []
stop_handles (s ∷ ss) = handles_of s.obstacle ++ stop_handles ss

abbrev pub group_handles : Group → List Code
group_handles (growth n f) = []
group_handles (conflicts es ss) = list_handles es ++ stop_handles ss

abbrev pub stale_code : Bench → Code → Bool
stale_code b h = stale b (handle_named h)

-- the first vertex of a stop's node; no other obstacle is kept by one
abbrev pub vertex_of : Bench → Obstacle → ℕ
vertex_of b (NonZeroGrow n f) = 0
vertex_of b (Conflicting p q) = 0
vertex_of b (TouchingVirtual p v m) = 0
vertex_of b (BlossomNeedExpand h) = 0
vertex_of b (VertexShrinkStop h p) = (first_vertex b (handle_named h)).1

-- the group itself where there is no room
abbrev pub or_else : Option Group → Group → Group
or_else None g = g
or_else (Some q) g = q

unfoldable pub add : Bench → Group → Obstacle → ℕ × Group
add b g o =
    said
    (first ((not (sound b && sound_group g), BROKEN) ∷ (any (stale_code b) (handles_of o), STALE) ∷ (not (is_some (added g o (vertex_of b o))), ROOM) ∷ []))
    (or_else (added g o (vertex_of b o)) g)
    g

unfoldable pub extend : Bench → Group → Group → ℕ × Group
extend b g h =
    said
    (first ((not (sound b && (sound_group g && sound_group h)), BROKEN) ∷ (any (stale_code b) (group_handles h), STALE) ∷ (not (is_some (extended g h)), ROOM) ∷ []))
    (or_else (extended g h) g)
    g
