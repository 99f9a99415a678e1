-- Whenever a group is about to be taken, what is left answers as the whole does (`Reached`). The measure is the words left. Assumes nothing.
use Prim.Native.Nat.{◌-◌}
use mathlib.Core.Path.{refl, sym, ◌∙◌}
use borrow.Author.Rules.{rules}
use native.Mathlib.Omega.{arith}
use lib.ListN.{length as size}
use Rattle.recorded_steps.specs.Passes.{limit_no}
use Rattle.recorded_steps.proofs.Passing.{by_low}
use Rattle.recorded_steps.proofs.Reaching.{Reached, reached_start, reached_stop, reached_past, reached_next, reached_end}
use Rattle.recorded_steps.proofs.pass.Goals as goal

pub loop-done-init : goal.loop-done-init
loop-done-init c = let a = c.args in reached_start (limit_no a.reach a.floor) a.ws.now a.length

pub overflow_sub-length : goal.overflow_sub-length
overflow_sub-length c = omega arith

pub step_at-s-requires : goal.step_at-s-requires
step_at-s-requires c = (omega arith, omega arith)

pub returns-then-number-ne0 : goal.returns-then-number-ne0
returns-then-number-ne0 c = let a = c.args in record { number = c.refused.ensures.0 ∙ sym (reached_stop (limit_no a.reach a.floor) a.ws.now a.length c.loop-done.at c.loop-done.taken c.loop-done.done c.loop-done.invariant c.loop-done-test.true _ c.step_at-s.ensures c.if-number-ne0.true); taken = λ z. absurd (c.if-number-ne0.true (sym c.refused.ensures.0 ∙ z)); none_taken = λ h. c.refused.ensures.1 }

pub overflow_add-done : goal.overflow_add-done
overflow_add-done c = let a = c.args in omega (arith, by_low (limit_no a.reach a.floor) a.ws.now a.length c.loop-done.at c.loop-done.done (omega arith) c.loop-done-test.true _ c.step_at-s.ensures c.if-number-ne0.false)

pub returns-then-past-ne0 : goal.returns-then-past-ne0
returns-then-past-ne0 c =
    let a = c.args in record { number = c.refused-then-past-ne0.ensures.0 ∙ c.limit_number-past.ensures ∙ sym (reached_past (limit_no a.reach a.floor) a.ws.now a.length c.loop-done.at c.loop-done.taken c.loop-done.done c.loop-done.invariant c.loop-done-test.true _ c.step_at-s.ensures c.if-number-ne0.false (λ z. c.if-past-ne0.true (c.limit_number-past.ensures ∙ z))); taken = λ z. absurd (c.if-past-ne0.true (sym c.refused-then-past-ne0.ensures.0 ∙ z)); none_taken = λ h. c.refused-then-past-ne0.ensures.1 }

pub overflow_add-taken : goal.overflow_add-taken
overflow_add-taken c = omega arith

pub loop-done-smaller : goal.loop-done-smaller
loop-done-smaller c = omega (arith, c.step_at-s.ensures.end c.if-number-ne0.false)

pub loop-done-preserved : goal.loop-done-preserved
loop-done-preserved c = let a = c.args in reached_next (limit_no a.reach a.floor) a.ws.now a.length c.loop-done.at c.loop-done.taken c.loop-done.done c.loop-done.invariant c.loop-done-test.true _ c.step_at-s.ensures c.if-number-ne0.false (sym c.limit_number-past.ensures ∙ c.if-past-ne0.false)

pub returns : goal.returns
returns c = let a = c.args in let e = reached_end (limit_no a.reach a.floor) a.ws.now a.length c.loop-done.at c.loop-done.taken c.loop-done.done c.loop-done.invariant (omega arith) in record { number = sym e.0; taken = λ z. sym e.1; none_taken = λ h. absurd (h refl) }
