-- The whole group after something was added, byte for byte, from what the ledger adds. Assumes nothing.
use Rattle.std.specs.Prelude.{None, Option, Some}
use Rattle.ledger_spec.specs.Groups.{Group}
use Rattle.groups.specs.View.{laid}
use Rattle.groups.specs.declared.Group.{Group as Code}
use Rattle.group_adds.specs.declared.Changed.{Changed}

-- ROOM and the very group, or 0 and the new one laid into it
unfoldable pub changed : Option Group → Code → Changed
changed None g = record { number = 20; group = g }
changed (Some q) g = record { number = 0; group = laid q g }
