-- The text of a line: its fields, with one space between. Assumes nothing.
use Rattle.std.specs.Prelude.{ℕ, ◌≤◌, List, [], ◌∷◌, ◌++◌, map, length, None, Some}
use Rattle.std.specs.Int.{w64}
use Rattle.std.proofs.Common.{SFits}
use Rattle.ledger_spec.specs.Bench.{rate}
use Rattle.ledger_spec.specs.Decimals.{decimal, signed}
use Rattle.ledger_spec.specs.Operations.{D, B, E, S, G, F, C, K}
use Rattle.ledger_spec.specs.Grammar.{Line, Fields}

unfoldable pub spaced : List ℕ → Fields → List ℕ
spaced f [] = f
spaced f (g ∷ fs) = f ++ (32 ∷ spaced g fs)

-- the fields after the letter
unfoldable pub fields_of : Line → Fields
fields_of (Some (D u v)) = decimal u ∷ decimal v ∷ []
fields_of (Some (B u ns)) = decimal u ∷ map decimal ns
fields_of (Some (E u n)) = decimal u ∷ decimal n ∷ []
fields_of (Some (S u n g)) = decimal u ∷ decimal n ∷ signed (rate g) ∷ []
fields_of (Some (G u l)) = decimal u ∷ signed l ∷ []
fields_of (Some (F p l r)) = decimal p ∷ decimal l ∷ decimal r ∷ []
fields_of (Some (C u)) = decimal u ∷ []
fields_of (Some (K u)) = decimal u ∷ []
fields_of None = []

unfoldable pub letter_of : Line → List ℕ
letter_of (Some (D u v)) = 68 ∷ []
letter_of (Some (B u ns)) = 66 ∷ []
letter_of (Some (E u n)) = 69 ∷ []
letter_of (Some (S u n g)) = 83 ∷ []
letter_of (Some (G u l)) = 71 ∷ []
letter_of (Some (F p l r)) = 70 ∷ []
letter_of (Some (C u)) = 67 ∷ []
letter_of (Some (K u)) = 75 ∷ []
letter_of None = []

abbrev pub line_text : Line → List ℕ
line_text l = spaced (letter_of l) (fields_of l)

-- ---- the numbers that a line can say

abbrev pub Unit8 : ℕ → Type 0
Unit8 u = u ≤ 255

abbrev pub Serial32 : ℕ → Type 0
Serial32 n = (1 ≤ n) × (n ≤ 4294967295)

abbrev pub Serials : List ℕ → Type 0
Serials [] = Unit {0}
Serials (n ∷ ns) = Serial32 n × Serials ns

abbrev pub Fit : Line → Type 0
Fit (Some (D u v)) = Unit8 u × (v ≤ 4294967295)
Fit (Some (B u ns)) = Unit8 u × (1 ≤ length ns) × Serials ns
Fit (Some (E u n)) = Unit8 u × Serial32 n
Fit (Some (S u n g)) = Unit8 u × Serial32 n
Fit (Some (G u l)) = Unit8 u × SFits w64 l
Fit (Some (F p l r)) = Unit8 p × Unit8 l × Unit8 r
Fit (Some (C u)) = Unit8 u
Fit (Some (K u)) = Unit8 u
Fit None = ⊥
