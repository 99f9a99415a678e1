-- Whose bytes a group extended by another keeps past what the ledger says: its own, but the other's where a growth is extended by conflicts, which it
-- takes whole. Then the parts of the code. Assumes nothing.
use Rattle.std.specs.Prelude.{Bool, cond, List, ◌++◌, ℤ}
use Rattle.kinds.specs.declared.Entry.{Entry}
use Rattle.ledger_spec.specs.Groups.{Group, growth, largest, eq_z, smaller_pair}
use Rattle.groups.specs.View.{list_of}
use Rattle.groups.specs.declared.Kind.{Kind}
use Rattle.groups.specs.declared.Kind.TheVariants.{Growth, Conflicts}
use Rattle.groups.specs.declared.Group.{Group as Code}

abbrev pub whole_by : Kind → Kind → Code → Code → Code
whole_by (Growth a f) (Growth b i) g h = g
whole_by (Growth a f) Conflicts g h = h
whole_by Conflicts (Growth b i) g h = g
whole_by Conflicts Conflicts g h = g

abbrev pub whole_of : Code → Code → Code
whole_of g h = whole_by g.kind h.kind g h

-- ---- the parts

abbrev pub append_list : Code → Code → List Entry
append_list g h = list_of g ++ list_of h

abbrev pub least_of : ℤ → Bool → ℤ → Bool → Group
least_of a f b h = cond (eq_z b largest) (growth a f) (smaller_pair a f b h)
