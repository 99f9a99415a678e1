-- A run of one array laid into another. Assumes nothing.
use Rattle.std.specs.Prelude.{ℕ, ◌+◌, ◌-◌, List, ◌++◌, take, drop}

-- elements `from` to n of s over l from place `at` on; what lies before and after is untouched
abbrev pub laid_at : {A : Type 0} → ℕ → List A → ℕ → ℕ → List A → List A
laid_at at l from n s = take at l ++ (drop from (take n s) ++ drop (at + (n - from)) l)
