-- An answer without a node. Assumes nothing.
use Rattle.std.specs.Prelude.{ℕ}
use Rattle.kinds.specs.Names.{no_code}
use Rattle.outcomes.specs.declared.Made.{Made}

abbrev pub refused_by : ℕ → Made
refused_by n = record { number = n; node = no_code }
