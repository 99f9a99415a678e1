-- Up to four nodes as a list. Assumes nothing.
use Rattle.std.specs.Prelude.{List, [], ◌∷◌}
use Rattle.kinds.specs.declared.Handle.{Handle}
use Rattle.group_handles.specs.declared.Nodes.{Nodes}
use Rattle.group_handles.specs.declared.Nodes.TheVariants.{None, One, Two, Three, Four}

abbrev pub named_by : Nodes → List Handle
named_by None = []
named_by (One a) = a ∷ []
named_by (Two a b) = a ∷ b ∷ []
named_by (Three a b c) = a ∷ b ∷ c ∷ []
named_by (Four a b c d) = a ∷ b ∷ c ∷ d ∷ []
