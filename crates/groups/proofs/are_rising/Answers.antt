-- `are_rising` tests the stops one after the other, with the least vertex that the next may have: what is left to test decides. Assumes nothing.
use Rattle.std.proofs.Common.{sym, ◌∙◌}
use Rattle.groups.proofs.Loops.{rise_ends, rise_low, rise_goes, rise_done}
use Rattle.groups.proofs.are_rising.Goals as goal

pub returns-then-not-is_stop : goal.returns-then-not-is_stop
returns-then-not-is_stop c =
    sym (c.loop-s.invariant ∙ rise_ends _ _ _ _ c.loop-s-test.true (sym c.is_stop.ensures ∙ c.if-not-is_stop.true))

pub returns-then-v-least : goal.returns-then-v-least
returns-then-v-least c =
    sym (c.loop-s.invariant ∙ rise_low _ _ _ _ c.loop-s-test.true (sym c.is_stop.ensures ∙ c.if-not-is_stop.false) c.if-v-least.true)

pub loop-s-preserved : goal.loop-s-preserved
loop-s-preserved c =
    c.loop-s.invariant ∙ rise_goes _ _ _ _ c.loop-s-test.true (sym c.is_stop.ensures ∙ c.if-not-is_stop.false) c.if-v-least.false

pub returns : goal.returns
returns c = sym (c.loop-s.invariant ∙ rise_done _ c.loop-s.s-index _ c.loop-s-test.false)
