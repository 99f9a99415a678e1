-- Words that move within a group's: a stop goes, or one comes in. Assumes nothing.
use Rattle.std.specs.Prelude.{ℕ, ◌+◌, List, take, drop}
use Rattle.std.proofs.lemmas.List.Edits.{sets}

-- the k words from at + 6 on come to at: a stop goes, and those after it move down
unfoldable pub slid : List ℕ → ℕ → ℕ → List ℕ
slid ws at k = sets ws at (take k (drop (at + 6) ws))
