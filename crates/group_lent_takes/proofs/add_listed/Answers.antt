-- `add_listed` writes the entry and the count, or the head. Assumes nothing.
use Rattle.group_lent_takes.proofs.Adding.{listed_one, listed_full, listed_more}
use borrow.Author.Rules.{rules}
use Rattle.group_lent_takes.proofs.add_listed.Goals as goal

pub returns-then-w-eq1 : goal.returns-then-w-eq1
returns-then-w-eq1 c v =
    let one = listed_one c.args.w.now c.args.f c.requires.sound_group c.requires.f_value.0 c.requires.f_value.1 v c.if-w-eq1.true in
    let e = c.put_five-then-w-eq1.ensures in
    let d = c.put_five.ensures in
    rw (e, d) one

pub returns-then-n-ge128 : goal.returns-then-n-ge128
returns-then-n-ge128 c v = listed_full c.args.w.now c.args.f c.requires.sound_group c.requires.f_value.0 c.requires.f_value.1 v c.if-w-eq1.false c.if-n-ge128.true

pub returns : goal.returns
returns c v =
    rw c.put_five-2.ensures (listed_more c.args.w.now c.args.f c.requires.sound_group c.requires.f_value.0 c.requires.f_value.1 v c.if-w-eq1.false c.if-n-ge128.false)
