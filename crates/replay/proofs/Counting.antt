-- A number of no more than the length counts elements. Assumes nothing.
use Rattle.std.proofs.Common.{ℕ, ◌≤◌, List, length, sym, length-take-le}
use Rattle.replay.specs.Counts.{Counts}

pub counts : (n : ℕ) (xs : List ℕ) → n ≤ length xs → Counts n xs
counts n xs h = (h, sym (length-take-le n xs h))
