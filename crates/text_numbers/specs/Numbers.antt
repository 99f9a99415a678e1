-- An answer's four numbers, as the ledger has them. Assumes nothing.
use Rattle.std.specs.Prelude.{ℕ, ℤ}
use Rattle.text_numbers.specs.declared.Reply.{Reply}

abbrev pub numbers_of : Reply → ℕ × ℕ × ℤ × ℤ
numbers_of r = (r.number, r.serial, r.speed, r.sum)
