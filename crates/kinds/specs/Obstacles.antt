-- Obstacles: the small tests on them and what each case holds. Assumes nothing.
use Rattle.std.specs.Prelude.{None, Option, Some, ℤ, Bool, true, false, ◌&&◌, ◌||◌}
use Rattle.kinds.specs.declared.Vertex.{Vertex}
use Rattle.kinds.specs.Names.{same_code}
use Rattle.kinds.specs.declared.Handle.{Handle}
use Rattle.kinds.specs.declared.Pair.{Pair}
use Rattle.kinds.specs.declared.Obstacle.{Obstacle}
use Rattle.kinds.specs.declared.Obstacle.TheVariants.{NonZeroGrow, Conflicting, TouchingVirtual, BlossomNeedExpand, VertexShrinkStop}

-- what a list may hold: neither a growth nor a stop
abbrev pub listable : Obstacle → Bool
listable (NonZeroGrow l f) = false
listable (Conflicting p q) = true
listable (TouchingVirtual p v m) = true
listable (BlossomNeedExpand h) = true
listable (VertexShrinkStop h p) = false

abbrev pub is_stop : Obstacle → Bool
is_stop (NonZeroGrow l f) = false
is_stop (Conflicting p q) = false
is_stop (TouchingVirtual p v m) = false
is_stop (BlossomNeedExpand h) = false
is_stop (VertexShrinkStop h p) = true

-- the pair of a stop that has one
abbrev pub pair_of : Obstacle → Option Pair
pair_of (NonZeroGrow l f) = None
pair_of (Conflicting p q) = None
pair_of (TouchingVirtual p v m) = None
pair_of (BlossomNeedExpand h) = None
pair_of (VertexShrinkStop h p) = p

-- a conflict of a and b, in this order and in either
abbrev pub these_of : Pair → Pair → Handle → Handle → Bool
these_of p q a b = same_code p.node a && same_code q.node b

abbrev pub both_of : Pair → Pair → Handle → Handle → Bool
both_of p q a b = these_of p q a b || these_of p q b a

abbrev pub conflicting_of : Obstacle → Handle → Handle → Bool
conflicting_of (NonZeroGrow l f) a b = false
conflicting_of (Conflicting p q) a b = both_of p q a b
conflicting_of (TouchingVirtual p v m) a b = false
conflicting_of (BlossomNeedExpand h) a b = false
conflicting_of (VertexShrinkStop h p) a b = false

-- ---- what each case holds

abbrev pub length_of : Obstacle → Option ℤ
length_of (NonZeroGrow l f) = Some l
length_of (Conflicting p q) = None
length_of (TouchingVirtual p v m) = None
length_of (BlossomNeedExpand h) = None
length_of (VertexShrinkStop h p) = None

abbrev pub nodes_of : Obstacle → Option (Handle × Handle)
nodes_of (NonZeroGrow l f) = None
nodes_of (Conflicting p q) = Some (p.node, q.node)
nodes_of (TouchingVirtual p v m) = None
nodes_of (BlossomNeedExpand h) = None
nodes_of (VertexShrinkStop h p) = None

abbrev pub virtual_of : Obstacle → Option (Handle × Vertex)
virtual_of (NonZeroGrow l f) = None
virtual_of (Conflicting p q) = None
virtual_of (TouchingVirtual p v m) = Some (p.node, v)
virtual_of (BlossomNeedExpand h) = None
virtual_of (VertexShrinkStop h p) = None

abbrev pub expand_of : Obstacle → Option Handle
expand_of (NonZeroGrow l f) = None
expand_of (Conflicting p q) = None
expand_of (TouchingVirtual p v m) = None
expand_of (BlossomNeedExpand h) = Some h
expand_of (VertexShrinkStop h p) = None

abbrev pub stop_of : Obstacle → Option Handle
stop_of (NonZeroGrow l f) = None
stop_of (Conflicting p q) = None
stop_of (TouchingVirtual p v m) = None
stop_of (BlossomNeedExpand h) = None
stop_of (VertexShrinkStop h p) = Some h
