-- What the writing pass needs and does, and a move's answer. Assumes nothing.
use Rattle.std.specs.Prelude.{ℕ, ◌+◌, ◌*◌, ◌≤◌, ◌≡◌, List, length, None, Option, Some}
use Rattle.std.proofs.lemmas.List.Edits.{sets}
use Rattle.record_spec.specs.Numbers.{fours}
use Rattle.record_spec.specs.Operations.{Op}
use Rattle.record_spec.specs.Files.{records_of, starts}
use Rattle.record_spec.specs.Moves.{Moved as Answer}
use Rattle.record_packs.specs.declared.Moved.{Moved}

-- the operations are there, their records end at `start`, and there is room for the list after them
abbrev pub Ready : Option (List Op) → ℕ → ℕ → Type 0
Ready None start room = ⊥
Ready (Some ops) start room = (length (records_of ops) ≡ start) × (start + 4 * length ops ≤ room)

-- the records stand in front, and the list after them
abbrev pub Filled : Option (List Op) → List ℕ → ℕ → List ℕ → Type 0
Filled None out start out' = Unit {0}
Filled (Some ops) out start out' = out' ≡ sets (sets out 0 (records_of ops)) start (fours (starts 0 ops))

-- a move's number, its bytes, and the slice after it
pub record MovedAs (m : Answer) (out : List ℕ) (r : Moved) : Type 0 where
  pub number : r.number ≡ m.number
  pub size : r.size ≡ m.size
  pub output : out ≡ m.output
