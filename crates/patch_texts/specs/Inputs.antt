-- Two patches in one input of the text program: neither disturbs what the other reads. Assumes nothing.
use Rattle.std.specs.Prelude.{ℕ, ◌<◌, ◌^◌, ◌≡◌, ◌≢◌, List, [], ◌∷◌, map, ℤ, None, Some}
use Rattle.ledger_spec.specs.Numbers.{WORN}
use Rattle.ledger_spec.specs.Bench.{set_up}
use Rattle.ledger_spec.specs.Fields.{upto, cut}
use Rattle.ledger_spec.specs.Operations.{D, B, E, S, G, F, C, K}
use Rattle.ledger_spec.specs.Grammar.{Line}
use Rattle.ledger_spec.specs.Opening.{chosen}
use Rattle.ledger_spec.specs.Program.{lines_of, answers, open_answers}
use Rattle.patch_laws.specs.Patch.{Patch, Apart, Within}
use Rattle.patch_texts.specs.Page.{Read, Step, theirs, ours, reads, lines, own, own_of, opened}

-- the interfaces that a line names
abbrev pub units_in : Line → List ℕ
units_in (Some (D u v)) = u ∷ []
units_in (Some (B u ks)) = u ∷ []
units_in (Some (E u k)) = u ∷ []
units_in (Some (S u k s)) = u ∷ []
units_in (Some (G u l)) = u ∷ []
units_in (Some (F p l r)) = p ∷ l ∷ r ∷ []
units_in (Some (C u)) = u ∷ []
units_in (Some (K u)) = u ∷ []
units_in None = []

-- a line names interfaces of its own patch only; the other's serials may be any
abbrev pub Fits : Patch → Patch → Step → Type 0
Fits a p (theirs l) = Within a (units_in l)
Fits a p (ours l) = Within p (units_in l)

abbrev pub AllFit : Patch → Patch → List Step → Type 0
AllFit a p [] = Unit {0}
AllFit a p (x ∷ xs) = Fits a p x × AllFit a p xs

-- no line of the watched patch is answered WORN
abbrev pub Unworn : List Read → Type 0
Unworn [] = Unit {0}
Unworn (x ∷ xs) = (x.0 ≢ WORN) × Unworn xs

-- Two runs of lines from set-up, with any first serials, whose lines of the watched patch are the same but for serials, read by numbers: their answers
-- are the same, the serial field by numbers too.
abbrev pub TwoTexts : Type 0
TwoTexts =
    (a p : Patch) → Apart a p → (m n : ℕ) → m < 2 ^ 32 → n < 2 ^ 32 → (xs ys : List Step) → AllFit a p xs → AllFit a p ys
    → own xs ≡ own ys → Unworn (reads (opened m) xs) → Unworn (reads (opened n) ys) → reads (opened m) xs ≡ reads (opened n) ys

-- an answer but for its serial field
abbrev pub but_serial : ℕ × ℕ × ℤ × ℤ → ℕ × ℤ × ℤ
but_serial a = (a.0, a.2, a.3)

-- And of bytes: the lines of two inputs are answered the same for the watched patch's lines but for the serial field.
abbrev pub TwoInputs : Type 0
TwoInputs =
    (a p : Patch) → Apart a p → (xs ys : List Step) → AllFit a p xs → AllFit a p ys → own xs ≡ own ys → Unworn (reads (opened 1) xs) → Unworn (reads (opened 1) ys)
    → (i j : List ℕ) → lines_of i ≡ lines (opened 1) xs → lines_of j ≡ lines (opened 1) ys
    → map but_serial (own_of xs (answers (set_up 1) (lines_of i))) ≡ map but_serial (own_of ys (answers (set_up 1) (lines_of j)))

-- Of the program's own answers: the same, where no first line chooses an engine.
abbrev pub TwoPrograms : Type 0
TwoPrograms =
    (a p : Patch) → Apart a p → (xs ys : List Step) → AllFit a p xs → AllFit a p ys → own xs ≡ own ys → Unworn (reads (opened 1) xs) → Unworn (reads (opened 1) ys)
    → (i j : List ℕ) → lines_of i ≡ lines (opened 1) xs → lines_of j ≡ lines (opened 1) ys → chosen (upto 10 i) ≡ None → chosen (upto 10 j) ≡ None
    → map but_serial (own_of xs (open_answers (cut 10 i))) ≡ map but_serial (own_of ys (open_answers (cut 10 j)))
