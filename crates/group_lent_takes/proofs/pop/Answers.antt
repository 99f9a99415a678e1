-- `pop` moves the stops down and lowers both counts. Assumes nothing.
use native.Mathlib.Omega.{arith}
use Rattle.group_lent.proofs.Seen.{is_listing}
use Rattle.group_lent_takes.proofs.Taking.{pop_refused, pop_left}
use borrow.Author.Rules.{rules}
use Rattle.group_lent_takes.proofs.pop.Goals as goal

pub returns-then-w-eq1 : goal.returns-then-w-eq1
returns-then-w-eq1 c = pop_refused c.args.w.now c.requires c.peek-top.result c.peek-top.ensures.top c.peek-top.ensures.seen c.if-w-eq1.true

pub overflow_mul-m : goal.overflow_mul-m
overflow_mul-m c =
    omega (arith, (is_listing c.args.w.now c.requires c.if-w-eq1.false).fewer, c.less-m.ensures)

pub slide-requires : goal.slide-requires
slide-requires c =
    (c.requires.long, omega (arith, (is_listing c.args.w.now c.requires c.if-w-eq1.false).fewer, c.less-m.ensures))

pub returns : goal.returns
returns c =
    pop_left c.args.w.now c.requires c.peek-top.result c.peek-top.ensures.top c.peek-top.ensures.seen c.if-w-eq1.false _ _ _ c.less-n.ensures c.less-m.ensures c.slide.ensures
