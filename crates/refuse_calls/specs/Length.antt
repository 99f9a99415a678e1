-- A length as growing asks for it, before it looks at the nodes. Assumes nothing.
use Rattle.std.specs.Prelude.{ℕ, Bool, ◌||◌, List, [], ◌∷◌, ℤ, pos, ◌+ℤ◌}
use Rattle.std.specs.Int.Signed.{lt_z}
use Rattle.ledger_spec.specs.Numbers.{progress_limit, UNIT, CHILD, LENGTH}
use Rattle.ledger_spec.specs.Bench.{Bench}
use Rattle.ledger_spec.specs.Look.{interface}
use Rattle.ledger_spec.specs.Tests.{outside, child}

abbrev pub length_tests : Bench → ℕ → ℤ → List (Bool × ℕ)
length_tests b u l = (outside u, UNIT) ∷ (child b u, CHILD) ∷ (lt_z l (pos 0) || lt_z (pos progress_limit) ((interface b u).progress +ℤ l), LENGTH) ∷ []
