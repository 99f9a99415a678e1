-- No words, too few, a group that stops the step, one that lets it go on. Assumes nothing.
use Prim.Native.Nat.{ℕ}
use mathlib.Core.Path.{sym, ◌∙◌, ap}
use lib.ListN.{take, drop}
use lib.IntN.{pos}
use Rattle.ledger_spec.specs.Tests.{first}
use Rattle.recorded_spec.specs.Recorded.{group_tests, step_by}
use Rattle.recorded_groups.specs.Recording.{played}
use native.Mathlib.Omega.{arith}
use Rattle.recorded_steps.proofs.Windows.{short_window, width}
use borrow.Author.Rules.{rules}
use Rattle.recorded_steps.proofs.step_at.Goals as goal

pub returns-then-rest-eq0 : goal.returns-then-rest-eq0
returns-then-rest-eq0 c = record { short = λ e. c.stopped.ensures; number = λ h. absurd (h (omega arith)); by = λ z. absurd (omega (arith, sym c.stopped.ensures ∙ z)); end = λ z. absurd (omega (arith, sym c.stopped.ensures ∙ z)) }

pub returns-then-rest-lt-GROUP : goal.returns-then-rest-lt-GROUP
returns-then-rest-lt-GROUP c = record { short = λ e. absurd (omega arith); number = λ h. c.stopped-then-rest-lt-GROUP.ensures ∙ sym (short_window c.args.ws.now c.args.at (omega arith)); by = λ z. absurd (omega (arith, sym c.stopped-then-rest-lt-GROUP.ensures ∙ z)); end = λ z. absurd (omega (arith, sym c.stopped-then-rest-lt-GROUP.ensures ∙ z)) }

pub returns-then-number-ne0 : goal.returns-then-number-ne0
returns-then-number-ne0 c = record { short = λ e. absurd (omega arith); number = λ h. c.stopped-then-number-ne0.ensures ∙ c.group_number-number.ensures ∙ ap (λ (n : ℕ). first (group_tests (played (take n (drop c.args.at c.args.ws.now))))) (width c.args.at); by = λ z. absurd (c.if-number-ne0.true (sym c.stopped-then-number-ne0.ensures ∙ z)); end = λ z. absurd (c.if-number-ne0.true (sym c.stopped-then-number-ne0.ensures ∙ z)) }

pub returns : goal.returns
returns c = record { short = λ e. absurd (omega arith); number = λ h. c.group_number-number.ensures ∙ ap (λ (n : ℕ). first (group_tests (played (take n (drop c.args.at c.args.ws.now))))) (width c.args.at); by = λ z. ap (λ (n : ℕ). step_by (pos c.args.left) (played (take n (drop c.args.at c.args.ws.now)))) (sym (width c.args.at)) ∙ c.step_by-by.ensures; end = λ z. (omega arith, omega arith) }
