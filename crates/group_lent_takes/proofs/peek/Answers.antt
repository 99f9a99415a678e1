-- `peek` says what is on top of conflicts. Assumes nothing.
use Rattle.group_lent_takes.proofs.Taking.{peek_refused, peek_made}
use borrow.Author.Rules.{rules}
use Rattle.group_lent_takes.proofs.peek.Goals as goal

pub returns-then-w-eq1 : goal.returns-then-w-eq1
returns-then-w-eq1 c = record { top = c.top_of-obstacle.ensures; seen = peek_refused c.args.w.now c.requires _ c.top_of-obstacle.ensures c.if-w-eq1.true }

pub returns : goal.returns
returns c = record { top = c.top_of-obstacle.ensures; seen = peek_made c.args.w.now c.requires _ c.top_of-obstacle.ensures c.if-w-eq1.false }
