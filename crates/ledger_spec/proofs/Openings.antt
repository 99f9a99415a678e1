-- An input whose first line chooses no engine is answered as lines of the grammar, from set-up; one whose first line does: four zeros, then its other lines.
-- Assumes nothing.
use Rattle.std.specs.Prelude.{None, Option, Some}
use Prim.Native.Nat.{ℕ}
use mathlib.Core.Bool.{Bool}
use mathlib.Core.Path.{◌≡◌, refl, ap}
use mathlib.Core.List.{List, [], ◌∷◌, ◌++◌}
use lib.IntN.{pos}
use Rattle.ledger_spec.specs.Bench.{set_up, set_up_in}
use Rattle.ledger_spec.specs.Fields.{upto, parts_after}
use Rattle.ledger_spec.specs.Grammar.{line_of}
use Rattle.ledger_spec.specs.Lines.{LineAnswer, says}
use Rattle.ledger_spec.specs.Opening.{chosen, opening_by, opening}
use Rattle.ledger_spec.specs.Program.{ended, lines_of, answers, after_lines, text_of, texts, open_answers, open_after, program, program_leaves}

-- ---- a first line

pub opening_none : (l : List ℕ) → chosen l ≡ None → opening l ≡ says (set_up 1) (line_of l)
unfolding opening
opening_none l e = ap (λ (o : Option Bool). opening_by o l) e

pub opening_some : (l : List ℕ) (m : Bool) → chosen l ≡ Some m → opening l ≡ record { numbers = (0, 0, pos 0, pos 0); bench = set_up_in m 1 }
unfolding opening
opening_some l m e = ap (λ (o : Option Bool). opening_by o l) e

-- ---- an input that opens with no M

parts_answers : (l : List ℕ) (ls : List (List ℕ)) → chosen l ≡ None → open_answers (l ∷ ls) ≡ answers (set_up 1) (ended (l ∷ ls))
unfolding open_answers answers ended
parts_answers l [] e = refl
parts_answers l (m ∷ ls) e = ap (λ (o : LineAnswer). o.numbers ∷ answers o.bench (ended (m ∷ ls))) (opening_none l e)

parts_after_lem : (l : List ℕ) (ls : List (List ℕ)) → chosen l ≡ None → open_after (l ∷ ls) ≡ after_lines (set_up 1) (ended (l ∷ ls))
unfolding open_after after_lines ended says
parts_after_lem [] [] e = refl
parts_after_lem (c ∷ s) [] e = refl
parts_after_lem l (m ∷ ls) e = ap (λ (o : LineAnswer). after_lines o.bench (ended (m ∷ ls))) (opening_none l e)

pub program_lazy : (s : List ℕ) → chosen (upto 10 s) ≡ None → program s ≡ texts (answers (set_up 1) (lines_of s))
unfolding program lines_of
program_lazy s e = ap texts (parts_answers (upto 10 s) (parts_after 10 s) e)

pub leaves_lazy : (s : List ℕ) → chosen (upto 10 s) ≡ None → program_leaves s ≡ after_lines (set_up 1) (lines_of s)
unfolding program_leaves lines_of
leaves_lazy s e = parts_after_lem (upto 10 s) (parts_after 10 s) e

-- ---- an input that opens with one: the line, and what stands after its newline

module _ (l : List ℕ) (m : Bool) (e : chosen l ≡ Some m) (n : List ℕ) (ls : List (List ℕ)) where
  pub opened_answers : texts (open_answers (l ∷ n ∷ ls)) ≡ text_of (0, 0, pos 0, pos 0) ++ texts (answers (set_up_in m 1) (ended (n ∷ ls)))
  unfolding open_answers texts
  opened_answers = ap (λ (o : LineAnswer). text_of o.numbers ++ texts (answers o.bench (ended (n ∷ ls)))) (opening_some l m e)

  pub opened_after : open_after (l ∷ n ∷ ls) ≡ after_lines (set_up_in m 1) (ended (n ∷ ls))
  unfolding open_after
  opened_after = ap (λ (o : LineAnswer). after_lines o.bench (ended (n ∷ ls))) (opening_some l m e)
