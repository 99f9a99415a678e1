-- What the answer's fields say, in the ledger's terms, and what the walk along a tree answers. Assumes nothing.
use Rattle.std.specs.Prelude.{ℕ, ◌+◌, ◌*◌, [], ◌∷◌, leb, length, None, Option}
use Rattle.bench_words.specs.declared.Node.{Node}
use Rattle.ledger_spec.specs.Numbers.{RANGE}
use Rattle.ledger_spec.specs.Bench.{Handle, Bench}
use Rattle.ledger_spec.specs.Tests.{first}
use Rattle.ledger_spec.specs.Reads.{said, slots_of}
use Rattle.read_sound.specs.Shown.{maybe}
use Rattle.read_present.specs.declared.Next.{Next}
use Rattle.read_present.specs.Present.{next_from}

abbrev pub shown_next : Next → ℕ × (ℕ × Option Handle)
shown_next r = (r.number, (r.index.0, maybe r.node))

-- the node in slot s of interface u, as a handle
abbrev pub hand_in : (ℕ → Node) → ℕ → ℕ → Handle
hand_in A u s = record { unit = u; slot = s; serial = (A (u * 64 + s)).serial.0 }

-- `next_of` past the tests of the interface
unfoldable pub walk_of : Bench → ℕ → ℕ → ℕ × (ℕ × Option Handle)
walk_of b u k = said (first ((leb (length (slots_of b u)) k, RANGE) ∷ [])) (next_from 0 k (slots_of b u)) (0, None)
