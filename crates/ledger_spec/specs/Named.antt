-- The code's plain types of crate `kinds`, as the ledger's own. Assumes nothing.
use Rattle.std.specs.Prelude.{None, Option, Some}
use Rattle.kinds.specs.declared.Handle.{Handle as Code}
use Rattle.kinds.specs.declared.GrowState.{GrowState}
use Rattle.kinds.specs.declared.GrowState.TheVariants.{Grow, Stay, Shrink}
use Rattle.ledger_spec.specs.Bench.{Handle, State, grows, stays, shrinks}

abbrev pub handle_named : Code → Handle
handle_named h = record { unit = h.unit; slot = h.slot; serial = h.serial.0 }

abbrev pub state_named : GrowState → State
state_named Grow = grows
state_named Stay = stays
state_named Shrink = shrinks

abbrev pub parent_named : Option Code → Option Handle
parent_named None = None
parent_named (Some h) = Some (handle_named h)
