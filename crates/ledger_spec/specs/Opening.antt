-- docs/MANUAL.md, Lines: how an input opens. Its first line may choose the engine. That line is not of the grammar, so it is wrong anywhere else and no byte
-- record has it. Assumes nothing.
use Rattle.std.specs.Prelude.{ℕ, Bool, true, false, ◌&&◌, List, [], ◌∷◌, eqb, pos, None, Option, Some}
use Rattle.ledger_spec.specs.Bench.{set_up, set_up_in}
use Rattle.ledger_spec.specs.Grammar.{line_of}
use Rattle.ledger_spec.specs.Lines.{LineAnswer, says}

-- a digit: 1 is the plain engine, 0 the lazy one
abbrev pub engine : ℕ → Option Bool
engine d = elim (eqb d 49) [ true ↦ Some true | false ↦ elim (eqb d 48) [ true ↦ Some false | false ↦ None ] ]

-- the engine that a line's bytes choose: M, one space, a digit, and no more
unfoldable pub chosen : List ℕ → Option Bool
chosen [] = None
chosen (m ∷ []) = None
chosen (m ∷ s ∷ []) = None
chosen (m ∷ s ∷ d ∷ []) = elim (eqb m 77 && eqb s 32) [ true ↦ engine d | false ↦ None ]
chosen (m ∷ s ∷ d ∷ e ∷ l) = None

-- a first line that chooses an engine sets the bench up in it and answers four zeros; another is a line as any
abbrev pub opening_by : Option Bool → List ℕ → LineAnswer
opening_by None l = says (set_up 1) (line_of l)
opening_by (Some m) l = record { numbers = (0, 0, pos 0, pos 0); bench = set_up_in m 1 }

unfoldable pub opening : List ℕ → LineAnswer
opening l = opening_by (chosen l) l
