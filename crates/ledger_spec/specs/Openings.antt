-- Ask 7's edges as three tables about the definitions: what an input answers whose first line chooses an engine, or seems to, and the engine after it.
-- Assumes nothing.
use Rattle.std.specs.Prelude.{ℕ, ◌≡◌, refl, Bool, true, false, List, [], ◌∷◌, map}
use Prim.Native.String.{String}
use Rattle.ledger_spec.specs.Program.{program, program_leaves}
use Rattle.ledger_spec.specs.Bytes.{bytes}
use Rattle.ledger_spec.specs.Opened.{run}

-- what an input answers, and whether the bench after it is of the plain engine
pub record Row : Type 0 where
  pub answers : List ℕ
  pub plain : Bool

pub of : String → Row
unfolding run
of input = record { answers = program (bytes input); plain = (program_leaves (bytes input)).plain }

pub is : String → Bool → Row
unfolding run
is s plain = record { answers = bytes s; plain = plain }

abbrev pub Agree : List (Row × Row) → Type 0
Agree rows = map (λ (e : Row × Row). e.0) rows ≡ map (λ (e : Row × Row). e.1) rows

-- either engine, and none chosen; a clear leaves it
pub chooses : Agree (
    (of "M 1\nD 0 3\nG 0 5\n", is "0 0 0 0\n0 1 1 0\n0 0 1 5\n" true)
    ∷ (of "M 0\nD 0 3\nG 0 5\n", is "0 0 0 0\n0 1 1 0\n0 0 1 5\n" false)
    ∷ (of "D 0 3\nG 0 5\n", is "0 1 1 0\n0 0 1 5\n" false)
    ∷ (of "M 1\nC 0\n", is "0 0 0 0\n0 0 0 0\n" true)
    ∷ [])
unfolding run of is
chooses = refl

-- not where it is not the first line: after an empty one, a bad one, a good one, another M
pub only_first : Agree (
    (of "\nM 1\n", is "1 0 0 0\n1 0 0 0\n" false)
    ∷ (of "X\nM 1\n", is "1 0 0 0\n1 0 0 0\n" false)
    ∷ (of "K 0\nM 1\n", is "0 0 0 0\n1 0 0 0\n" false)
    ∷ (of "M 0\nM 1\n", is "0 0 0 0\n1 0 0 0\n" false)
    ∷ [])
unfolding run of is
only_first = refl

-- not another number, none, another form, nor a line without its newline
pub no_other : Agree (
    (of "M 2\nM 1\n", is "1 0 0 0\n1 0 0 0\n" false)
    ∷ (of "M 01\n", is "1 0 0 0\n" false)
    ∷ (of "M 10\n", is "1 0 0 0\n" false)
    ∷ (of "M -1\n", is "1 0 0 0\n" false)
    ∷ (of "M\n", is "1 0 0 0\n" false)
    ∷ (of "M \n", is "1 0 0 0\n" false)
    ∷ (of "M1\n", is "1 0 0 0\n" false)
    ∷ (of "M  1\n", is "1 0 0 0\n" false)
    ∷ (of " M 1\n", is "1 0 0 0\n" false)
    ∷ (of "M 1 \n", is "1 0 0 0\n" false)
    ∷ (of "m 1\n", is "1 0 0 0\n" false)
    ∷ (of "M 1", is "1 0 0 0\n" false)
    ∷ (of "", is "" false)
    ∷ [])
unfolding run of is
no_other = refl
