-- The code's choice of an engine as the ledger's. Assumes nothing.
use Rattle.std.specs.Prelude.{None, Option, Some, Bool}

abbrev pub choice_of : Option Bool → Option Bool
choice_of None = None
choice_of (Some plain) = Some plain
