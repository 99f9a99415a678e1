-- Handles: when two are the same, and the one that a refusal answers. Assumes nothing.
use Rattle.std.specs.Prelude.{Bool, ◌&&◌, eqb}
use Rattle.kinds.specs.declared.Handle.{Handle}

-- interface, slot and serial agree
abbrev pub same_code : Handle → Handle → Bool
same_code a b = eqb a.unit b.unit && (eqb a.slot b.slot && eqb a.serial.0 b.serial.0)

abbrev pub no_code : Handle
no_code = record { unit = 0; slot = 0; serial = record { 0 = 0 } }
