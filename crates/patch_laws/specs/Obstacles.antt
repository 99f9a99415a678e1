-- Obstacles and groups with other handles in them; and the patch's groups, which hold its own handles, by numbers: a number stands in the field of the
-- serial. Assumes nothing.
use Rattle.std.specs.Prelude.{None, Option, Some, ℕ, map}
use Rattle.kinds.specs.declared.Handle.{Handle as Code}
use Rattle.kinds.specs.declared.Pair.{Pair}
use Rattle.kinds.specs.declared.Entry.{Entry}
use Rattle.kinds.specs.declared.Stop.{Stop}
use Rattle.kinds.specs.declared.Obstacle.{Obstacle}
use Rattle.kinds.specs.declared.Obstacle.TheVariants.{NonZeroGrow, Conflicting, TouchingVirtual, BlossomNeedExpand, VertexShrinkStop}
use Rattle.ledger_spec.specs.Bench.{Handle}
use Rattle.ledger_spec.specs.Named.{handle_named}
use Rattle.ledger_spec.specs.Groups.{Group, growth, conflicts}
use Rattle.patch_laws.specs.Patch.{Table, given, Name, name_of}

abbrev pub map_pair : (Code → Code) → Pair → Pair
map_pair f p = record { node = f p.node; touching = f p.touching }

abbrev pub map_maybe : (Code → Code) → Option Pair → Option Pair
map_maybe f None = None
map_maybe f (Some p) = Some (map_pair f p)

abbrev pub map_obstacle : (Code → Code) → Obstacle → Obstacle
map_obstacle f (NonZeroGrow l b) = NonZeroGrow l b
map_obstacle f (Conflicting p q) = Conflicting (map_pair f p) (map_pair f q)
map_obstacle f (TouchingVirtual p v m) = TouchingVirtual (map_pair f p) v m
map_obstacle f (BlossomNeedExpand n) = BlossomNeedExpand (f n)
map_obstacle f (VertexShrinkStop n p) = VertexShrinkStop (f n) (map_maybe f p)

-- what a group gave out, if anything
abbrev pub map_taken : (Code → Code) → Option Obstacle → Option Obstacle
map_taken f None = None
map_taken f (Some o) = Some (map_obstacle f o)

abbrev pub map_entry : (Code → Code) → Entry → Entry
map_entry f e = record { obstacle = map_obstacle f e.obstacle }

abbrev pub map_stop : (Code → Code) → Stop → Stop
map_stop f s = record { vertex = s.vertex; obstacle = map_obstacle f s.obstacle }

abbrev pub map_group : (Code → Code) → Group → Group
map_group f (growth l b) = growth l b
map_group f (conflicts l s) = conflicts (map (map_entry f) l) (map (map_stop f) s)

-- ---- from numbers to handles, and back; 8 is no interface
abbrev pub coded : Handle → Code
coded h = record { unit = h.unit; slot = h.slot; serial = record { 0 = h.serial } }

abbrev pub given_code : Table → Code → Code
given_code t c = coded (given t c.serial.0)

unfoldable pub numbered : ℕ → ℕ → Option ℕ → Code
numbered u s None = record { unit = 8; slot = 0; serial = record { 0 = 0 } }
numbered u s (Some k) = record { unit = u; slot = s; serial = record { 0 = k } }

abbrev pub name_code : Name → Code
name_code n = numbered n.unit n.slot n.number

abbrev pub number_code : Table → Code → Code
number_code t c = name_code (name_of t (handle_named c))
