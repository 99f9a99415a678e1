-- The whole group after a call, byte for byte, from the ledger's number and group. Assumes nothing.
use Rattle.std.specs.Prelude.{ℕ, zero, suc}
use Rattle.ledger_spec.specs.Groups.{Group}
use Rattle.groups.specs.View.{laid}
use Rattle.groups.specs.declared.Group.{Group as Code}
use Rattle.group_adds.specs.declared.Changed.{Changed}

-- accepted, the ledger's group laid into h, whose bytes past the counts stay; refused, the number and the very group g
unfoldable pub whole_by : ℕ → Group → Code → Code → Changed
whole_by zero q g h = record { number = 0; group = laid q h }
whole_by (suc k) q g h = record { number = suc k; group = g }

abbrev pub whole : ℕ × Group → Code → Code → Changed
whole a g h = whole_by a.0 a.1 g h
