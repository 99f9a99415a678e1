-- The read that writes a picture to the front of a lent list of bytes. It is written only where the plain check finds nothing. Assumes nothing.
use Rattle.std.specs.Prelude.{ℕ, Bool, not, List, [], ◌∷◌, ◌++◌, eqb, ltb, length, drop}
use Rattle.ledger_spec.specs.Numbers.{UNIT, CHILD, UNSOUND, SMALL}
use Rattle.ledger_spec.specs.Bench.{Bench}
use Rattle.ledger_spec.specs.Tests.{first, outside, child}
use Rattle.ledger_spec.specs.Reads.{said}
use Rattle.ledger_spec.specs.Check.{verdict}
use Rattle.ledger_spec.specs.Answers.{Read}
use Rattle.picture_spec.specs.Sketch.{sketch_of}
use Rattle.picture_spec.specs.Text.{names_by, text_of}

-- the text, with abbreviated names or full ones
unfoldable pub picture : Bench → ℕ → Bool → List ℕ
picture b u abbreviated = text_of (names_by abbreviated) (sketch_of b u)

abbrev pub unsound : Bench → ℕ → Bool
unsound b u = not (eqb (verdict b u).0 0)

unfoldable pub picture_tests : Bench → ℕ → Bool → List ℕ → List (Bool × ℕ)
picture_tests b u a out =
    (outside u, UNIT) ∷ (child b u, CHILD) ∷ (unsound b u, UNSOUND) ∷ (ltb (length out) (length (picture b u a)), SMALL) ∷ []

-- its length, and the lent list with it at the front; refused, the list is as it was
unfoldable pub picture_into : Bench → ℕ → Bool → List ℕ → ℕ × (ℕ × List ℕ)
picture_into b u a out =
    said (first (picture_tests b u a out)) (length (picture b u a), picture b u a ++ drop (length (picture b u a)) out) (0, out)

abbrev pub picture_read : Bench → ℕ → Bool → List ℕ → Read (ℕ × List ℕ)
picture_read b u a out = record { own = picture_into b u a out; zero = (0, out) }
