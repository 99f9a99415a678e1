-- The pop that spares the stops, beside the pop of `ledger_spec`: it touches the stops only where the list is empty, so that no pending stop is lost. Its
-- refusals and what it takes are those of the other pop; a group without entries answers none and stays. Assumes nothing.
use Rattle.std.specs.Prelude.{ℕ, List, [], ◌∷◌, drop, None, Option}
use Rattle.kinds.specs.declared.Entry.{Entry}
use Rattle.kinds.specs.declared.Stop.{Stop}
use Rattle.kinds.specs.declared.Obstacle.{Obstacle}
use Rattle.ledger_spec.specs.Tests.{first}
use Rattle.ledger_spec.specs.Reads.{said}
use Rattle.ledger_spec.specs.Groups.{Group, growth, conflicts, all_but_last}
use Rattle.ledger_spec.specs.GroupCalls.{last_in, take_tests}

-- the last of the list goes; where the list is empty, the stop of smallest vertex
unfoldable pub spared : List Entry → List Stop → Group
spared [] ss = conflicts [] (drop 1 ss)
spared (e ∷ es) ss = conflicts (all_but_last (e ∷ es)) ss

abbrev pub after_sparing : Group → Group
after_sparing (growth n f) = growth n f
after_sparing (conflicts es ss) = spared es ss

-- a number, what was taken, and the group after it, which a refusal leaves as it was
unfoldable pub pop_sparing : Group → ℕ × (Option Obstacle × Group)
pop_sparing g = said (first (take_tests g)) (last_in g, after_sparing g) (None, g)
