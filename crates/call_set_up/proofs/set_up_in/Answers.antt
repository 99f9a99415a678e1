-- 0 is refused and the bench is from serial 1; any other is the first serial. Assumes nothing.
use borrow.Author.Rules.{rules}
use Rattle.call_set_up.proofs.Opening.{opens, opens_worn}
use Rattle.call_set_up.proofs.set_up_in.Goals as goal

pub returns-then-first-eq0 : goal.returns-then-first-eq0
returns-then-first-eq0 c = opens_worn _ c.args.first c.ranges.first.fits _ c.if-first-eq0.true c.set_up_in.ensures

pub returns : goal.returns
returns c = opens _ c.args.first c.ranges.first.fits _ c.if-first-eq0.false c.set_up_in-2.ensures
