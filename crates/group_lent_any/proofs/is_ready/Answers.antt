-- The verdicts on the bench and on the group, in turn. Assumes nothing.
use mathlib.Core.Path.{ap, sym, ◌∙◌}
use mathlib.Core.Bool.{Bool, false≢true, ◌&&◌}
use borrow.Author.Rules.{rules}
use borrow.Author.Tests.{not-true, not-false}
use Rattle.group_lent_sound.specs.Test.{sound_in}
use Rattle.group_lent_any.proofs.is_ready.Goals as goal

pub returns-then-not-is_bench : goal.returns-then-not-is_bench
returns-then-not-is_bench c =
    let ws = c.args.w.now in
    let v = c.is_bench.ensures in
    record { is = sym (ap (λ (s : Bool). s && sound_in ws) (sym v.is ∙ c.if-not-is_bench.true)); says = λ e. absurd (false≢true e) }

pub returns : goal.returns
returns c =
    let ws = c.args.w.now in
    let v = c.is_bench.ensures in
    let yes = c.if-not-is_bench.false in
    record { is = c.is_group.ensures.is ∙ sym (ap (λ (s : Bool). s && sound_in ws) (sym v.is ∙ yes)); says = λ e. (v.says yes, c.is_group.ensures.says e) }
