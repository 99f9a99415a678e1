-- What the reading functions' answers stand for. Assumes nothing.
use Rattle.std.specs.Prelude.{None, Option, Some, ℕ, ℤ}

abbrev pub number_of : Option ℕ → Option ℕ
number_of None = None
number_of (Some n) = Some n

abbrev pub integer_of : Option ℤ → Option ℤ
integer_of None = None
integer_of (Some z) = Some z
