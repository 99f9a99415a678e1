-- THEOREM. What the text program writes for an input that opens with an M, in either engine: four zeros, and then the same bytes. Assumes nothing.
use Prim.Native.Nat.{ℕ}
use mathlib.Core.Path.{◌≡◌, refl, sym, ◌∙◌, ap}
use mathlib.Core.Bool.{Bool, true, false}
use mathlib.Core.List.{List, [], ◌∷◌, ◌++◌}
use lib.IntN.{pos}
use Rattle.ledger_spec.specs.Bench.{set_up}
use Rattle.ledger_spec.specs.Fields.{upto, parts_after}
use Rattle.ledger_spec.specs.Opening.{chosen}
use Rattle.ledger_spec.specs.Program.{lines_of, answers, text_of, texts, program}
use Rattle.ledger_spec.proofs.Openings.{opened_answers}
use Rattle.engine_laws.proofs.Both.{both_texts}

-- the line that chooses an engine, with its newline: M 1 or M 0
abbrev pub choosing : Bool → List ℕ
choosing true = 77 ∷ 32 ∷ 49 ∷ 10 ∷ []
choosing false = 77 ∷ 32 ∷ 48 ∷ 10 ∷ []

pub opened_program : (m : Bool) (s : List ℕ) → program (choosing m ++ s) ≡ text_of (0, 0, pos 0, pos 0) ++ texts (answers (set_up 1) (lines_of s))
unfolding program lines_of upto parts_after chosen
opened_program true s = opened_answers (77 ∷ 32 ∷ 49 ∷ []) true refl (upto 10 s) (parts_after 10 s) ∙ ap (λ (t : List ℕ). text_of (0, 0, pos 0, pos 0) ++ t) (both_texts 1 (lines_of s))
opened_program false s = opened_answers (77 ∷ 32 ∷ 48 ∷ []) false refl (upto 10 s) (parts_after 10 s)

pub both_programs : (s : List ℕ) → program (choosing true ++ s) ≡ program (choosing false ++ s)
both_programs s = opened_program true s ∙ sym (opened_program false s)
