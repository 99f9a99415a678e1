-- As set_up_lem. Assumes nothing.
use mathlib.Core.Bool.{false}
use borrow.Author.Rules.{rules}
use Rattle.call_set_up.proofs.Opening.{opens, opens_worn, lazily}
use Rattle.call_set_up.proofs.new_bench.Goals as goal

pub returns-then-first-eq0 : goal.returns-then-first-eq0
returns-then-first-eq0 c = (lazily (opens_worn false c.args.first c.ranges.first.fits _ c.if-first-eq0.true c.new_bench.ensures)).opened

pub returns : goal.returns
returns c = (lazily (opens false c.args.first c.ranges.first.fits _ c.if-first-eq0.false c.new_bench-2.ensures)).opened
