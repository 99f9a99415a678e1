-- `add_growth` changes the length and the flag of a growth. Assumes nothing.
use Rattle.group_lent_takes.proofs.Adding.{growth_kept, growth_grown}
use borrow.Author.Rules.{rules}
use Rattle.group_lent_takes.proofs.add_growth.Goals as goal

pub returns-then-w-ne1 : goal.returns-then-w-ne1
returns-then-w-ne1 c v = growth_kept c.args.w.now c.args.f c.requires.sound_group c.requires.kind_value v c.if-w-ne1.true

pub returns : goal.returns
returns c v =
    growth_grown c.args.w.now c.args.f c.requires.sound_group c.requires.kind_value v c.if-w-ne1.false _ _ c.least-l.ensures c.either-h.ensures
