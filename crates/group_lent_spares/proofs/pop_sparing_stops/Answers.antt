-- `pop_sparing_stops` is the other pop where there is no list; else it asks peek, and lowers the list's count. Assumes nothing.
use native.Mathlib.Omega.{arith}
use borrow.Author.Rules.{rules}
use Rattle.group_lent_spares.proofs.Sparing.{some_listed, spared_none, spared_list_less}
use Rattle.group_lent_spares.proofs.pop_sparing_stops.Goals as goal

pub returns-then-w-n : goal.returns-then-w-n
returns-then-w-n c = spared_none c.args.w.now c.if-w-n.true _ _ c.pop.ensures

pub overflow_sub-w : goal.overflow_sub-w
overflow_sub-w c = omega (arith, some_listed c.args.w.now c.requires c.if-w-n.false)

pub returns : goal.returns
returns c = spared_list_less c.args.w.now c.requires c.if-w-n.false _ c.peek-top.ensures.top c.peek-top.ensures.seen
