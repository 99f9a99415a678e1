-- How many serials there are, as the code answers it. Assumes nothing.
use Rattle.std.specs.Prelude.{None, Option, Some, ℕ, List, length}

abbrev pub counted : Option (List ℕ) → Option ℕ
counted None = None
counted (Some ns) = Some (length ns)
