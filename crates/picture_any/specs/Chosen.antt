-- A choice that C makes by a number: no at 0, yes at any other. Assumes nothing.
use Rattle.std.specs.Prelude.{ℕ, Bool, not, eqb}

abbrev pub chosen : ℕ → Bool
chosen k = not (eqb k 0)
