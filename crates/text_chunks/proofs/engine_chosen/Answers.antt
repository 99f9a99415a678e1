-- A line of three bytes, and which they are. Assumes nothing.
use native.Mathlib.Omega.{arith}
use borrow.Author.Rules.{rules}
use Rattle.text_chunks.proofs.Choices.{not_three, chosen_letter, chosen_space, chosen_plain, chosen_lazy, chosen_digit}
use Rattle.text_chunks.proofs.engine_chosen.Goals as goal

pub returns-in-77 : goal.returns-in-77
returns-in-77 c = chosen_plain c.args.line.now (omega arith) (search rules) (search rules) (search rules)

pub returns-in-77-2 : goal.returns-in-77-2
returns-in-77-2 c = chosen_lazy c.args.line.now (omega arith) (search rules) (search rules) (λ h. omega arith) (search rules)

pub returns-in_default : goal.returns-in_default
returns-in_default c = not_three c.args.line.now (λ h. omega arith)

pub returns-in_default-2 : goal.returns-in_default-2
returns-in_default-2 c = chosen_digit c.args.line.now (omega arith) (search rules) (search rules) (search rules) (search rules)

pub returns-in_default-3 : goal.returns-in_default-3
returns-in_default-3 c = chosen_space c.args.line.now (omega arith) (search rules) (search rules)

pub returns-in_default-4 : goal.returns-in_default-4
returns-in_default-4 c = chosen_letter c.args.line.now (omega arith) (search rules)

pub returns-in_default-5 : goal.returns-in_default-5
returns-in_default-5 c = not_three c.args.line.now (λ h. omega arith)
