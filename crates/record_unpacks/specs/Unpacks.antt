-- What the writing pass needs and does. Assumes nothing.
use Rattle.std.specs.Prelude.{ℕ, ◌≤◌, ◌≡◌, List, length, None, Option, Some}
use Rattle.std.proofs.lemmas.List.Edits.{sets}
use Rattle.record_spec.specs.Operations.{Op}
use Rattle.record_spec.specs.Moves.{text_of}

-- the operations are there, and so is room for their text
abbrev pub Ready : Option (List Op) → ℕ → Type 0
Ready None room = ⊥
Ready (Some ops) room = length (text_of ops) ≤ room

-- the text stands in front
abbrev pub Filled : Option (List Op) → List ℕ → List ℕ → Type 0
Filled None out out' = Unit {0}
Filled (Some ops) out out' = out' ≡ sets out 0 (text_of ops)
