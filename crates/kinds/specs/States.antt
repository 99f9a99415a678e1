-- Grow states and classes. Assumes nothing.
use Rattle.std.specs.Prelude.{Bool, true, false}
use Rattle.kinds.specs.declared.GrowState.{GrowState}
use Rattle.kinds.specs.declared.GrowState.TheVariants.{Grow, Stay, Shrink}
use Rattle.kinds.specs.declared.Class.{Class}
use Rattle.kinds.specs.declared.Class.TheVariants.{Absent, Blossom, Defect}

-- two nodes that meet are against each other if their edge is used up: both grow, or one grows and one stays
abbrev pub against_of : GrowState → GrowState → Bool
against_of Grow Grow = true
against_of Grow Stay = true
against_of Grow Shrink = false
against_of Stay Grow = true
against_of Stay Stay = false
against_of Stay Shrink = false
against_of Shrink s = false

abbrev pub blossom_of : Class → Bool
blossom_of Absent = false
blossom_of Blossom = true
blossom_of (Defect v) = false
