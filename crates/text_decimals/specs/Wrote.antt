-- Text written at a place of a lent slice. Assumes nothing.
use Rattle.std.specs.Prelude.{ℕ, ◌+◌, ◌≡◌, List, length}
use Rattle.std.proofs.lemmas.List.Edits.{sets}

-- the text stands at the place, all else is as it was, and r is the place after it
pub record Wrote (out : List ℕ) (at : ℕ) (text out' : List ℕ) (r : ℕ) : Type 0 where
  pub next : r ≡ at + length text
  pub stands : out' ≡ sets out at text
