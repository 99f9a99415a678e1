-- docs/MANUAL.md, Lines: what a line says. A line is its bytes without the newline. Assumes nothing.
use Rattle.std.specs.Prelude.{ℕ, zero, suc, Bool, true, false, List, [], ◌∷◌, eqb, ltb, length, ℤ, pos, negsuc, None, Option, Some}
use Rattle.ledger_spec.specs.Bench.{State, grows, stays, shrinks}
use Rattle.ledger_spec.specs.Operations.{Operation, D, B, E, S, G, F, C, K}
use Rattle.ledger_spec.specs.Decimals.{number_within, integer}
use Rattle.ledger_spec.specs.Fields.{cut}

-- what a line says, or none where it is not of the grammar
abbrev pub Line : Type 0
Line = Option (Operation ℕ)

abbrev pub wrong : Line
wrong = None

-- ---- fields

abbrev pub a_unit : List ℕ → Option ℕ
a_unit = number_within 0 255

abbrev pub a_vertex : List ℕ → Option ℕ
a_vertex = number_within 0 4294967295

abbrev pub a_serial : List ℕ → Option ℕ
a_serial = number_within 1 4294967295

abbrev pub an_amount : List ℕ → Option ℤ
an_amount = integer

-- 1, 0, -1
abbrev pub state_in : Option ℤ → Option State
state_in None = None
state_in (Some (pos zero)) = Some stays
state_in (Some (pos (suc zero))) = Some grows
state_in (Some (pos (suc (suc n)))) = None
state_in (Some (negsuc zero)) = Some shrinks
state_in (Some (negsuc (suc n))) = None

abbrev pub a_state : List ℕ → Option State
a_state f = state_in (integer f)

-- ---- one field after the other

abbrev pub Fields : Type 0
Fields = List (List ℕ)

-- the next field, read by r, and the fields after it
unfoldable pub step : {A : Type 0} → (List ℕ → Option A) → Fields → Option (A × Fields)
step r [] = None
step r (f ∷ fs) = elim (r f) [ None ↦ None | Some a ↦ Some (a, fs) ]

abbrev pub follow : {A : Type 0} → Option (A × Fields) → (A → Fields → Line) → Line
follow None k = wrong
follow (Some p) k = k p.0 p.1

abbrev pub then : {A : Type 0} → (List ℕ → Option A) → (A → Fields → Line) → Fields → Line
then r k fs = follow (step r fs) k

-- no field is left
abbrev pub no_more : Line → Fields → Line
no_more l [] = l
no_more l (f ∷ fs) = wrong

-- each field is a serial
unfoldable pub all_serials : Fields → Option (List ℕ)
all_serials [] = Some []
all_serials (f ∷ fs) = elim (a_serial f) [ None ↦ None | Some n ↦ elim (all_serials fs) [ None ↦ None | Some ns ↦ Some (n ∷ ns) ] ]

abbrev pub gathered : ℕ → Option (List ℕ) → Line
gathered u None = wrong
gathered u (Some ns) = Some (B u ns)

-- at least one
abbrev pub some_serials : ℕ → Fields → Line
some_serials u [] = wrong
some_serials u (f ∷ fs) = gathered u (all_serials (f ∷ fs))

-- ---- the lines

abbrev pub pick : Bool → Line → Line → Line
pick true a b = a
pick false a b = b

-- after the letter and the first number, a unit (of a fuse: the parent)
unfoldable pub rest : ℕ → ℕ → Fields → Line
rest letter u fs =
    pick (eqb letter 68) (then a_vertex (λ v. no_more (Some (D u v))) fs)  -- D unit vertex
    (pick (eqb letter 66) (some_serials u fs)  -- B unit serial..
    (pick (eqb letter 69) (then a_serial (λ n. no_more (Some (E u n))) fs)  -- E unit serial
    (pick (eqb letter 83) (then a_serial (λ n. then a_state (λ g. no_more (Some (S u n g)))) fs)  -- S unit serial state
    (pick (eqb letter 71) (then an_amount (λ l. no_more (Some (G u l))) fs)  -- G unit length
    (pick (eqb letter 70) (then a_unit (λ l. then a_unit (λ r. no_more (Some (F u l r)))) fs)  -- F parent left right
    (pick (eqb letter 67) (no_more (Some (C u)) fs)  -- C unit
    (pick (eqb letter 75) (no_more (Some (K u)) fs)  -- K unit
    wrong)))))))

-- a field of one byte
abbrev pub letter : List ℕ → Option ℕ
letter [] = None
letter (c ∷ []) = Some c
letter (c ∷ d ∷ f) = None

-- one space between fields; at most 1,024 bytes with the newline
unfoldable pub line_of : List ℕ → Line
line_of s = pick (ltb 1023 (length s)) wrong (then letter (λ c. then a_unit (rest c)) (cut 32 s))
