-- A test of every number below n, a sum over them, and a number near another. Assumes nothing.
use Rattle.std.specs.Prelude.{ℕ, zero, suc, ◌+◌, ◌-◌, Bool, true, ◌&&◌, leb}

unfoldable pub all_to : (ℕ → Bool) → ℕ → Bool
all_to f zero = true
all_to f (suc n) = all_to f n && f n

unfoldable pub sum_to : (ℕ → ℕ) → ℕ → ℕ
sum_to f zero = 0
sum_to f (suc n) = sum_to f n + f n

-- x is at most w away from c
abbrev pub between : ℕ → ℕ → ℕ → Bool
between c w x = leb (c - w) x && leb x (c + w)
