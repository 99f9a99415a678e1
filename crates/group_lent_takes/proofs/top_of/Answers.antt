-- `top_of` looks at the counts. Assumes nothing.
use mathlib.Core.Path.{◌∙◌}
use native.Mathlib.Omega.{arith}
use Rattle.group_lent.proofs.Seen.{is_listing}
use Rattle.group_lent_takes.proofs.Taking.{top_growth, top_entry, top_stop, top_none}
use borrow.Author.Rules.{rules}
use Rattle.group_lent_takes.proofs.top_of.Goals as goal

pub returns-then-w-eq1 : goal.returns-then-w-eq1
returns-then-w-eq1 c = c.no_obstacle.ensures ∙ top_growth c.args.w.now c.requires c.if-w-eq1.true

pub overflow_mul-n : goal.overflow_mul-n
overflow_mul-n c = omega (arith, (is_listing c.args.w.now c.requires c.if-w-eq1.false).few)

pub five_at-requires : goal.five_at-requires
five_at-requires c = omega (arith, (is_listing c.args.w.now c.requires c.if-w-eq1.false).few)

pub returns-then-n-gt0 : goal.returns-then-n-gt0
returns-then-n-gt0 c = top_entry c.args.w.now c.requires c.if-w-eq1.false c.if-n-gt0.true _ c.five_at.ensures

pub returns-then-w-gt0 : goal.returns-then-w-gt0
returns-then-w-gt0 c =
    top_stop c.args.w.now c.requires c.if-w-eq1.false c.if-n-gt0.false c.if-w-gt0.true _ c.five_at-then-w-gt0.ensures

pub returns : goal.returns
returns c =
    c.no_obstacle-2.ensures ∙ top_none c.args.w.now c.requires c.if-w-eq1.false c.if-n-gt0.false c.if-w-gt0.false
