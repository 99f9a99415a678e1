-- Those before u pass, and the first that does not ends it. Assumes nothing.
use native.Mathlib.Omega.{arith}
use mathlib.Core.Path.{sym, ◌∙◌}
use Rattle.sound_trees.proofs.Belows.{all_none, all_more, all_not, all_done}
use Rattle.sound_nodes.specs.Nodes.{slots_test}
use Rattle.sound_nodes.proofs.are_nodes.Goals as goal

pub loop-u-init : goal.loop-u-init
loop-u-init c = sym (all_none (slots_test c.args.b.now))

pub returns-then-not-are_slots : goal.returns-then-not-are_slots
returns-then-not-are_slots c = all_not (slots_test c.args.b.now) 8 c.loop-u.u c.loop-u-test.true (sym c.are_slots.ensures ∙ c.if-not-are_slots.true)

pub loop-u-preserved : goal.loop-u-preserved
loop-u-preserved c = all_more (slots_test c.args.b.now) c.loop-u.u c.loop-u.invariant (sym c.are_slots.ensures ∙ c.if-not-are_slots.false)

pub returns : goal.returns
returns c = all_done (slots_test c.args.b.now) 8 c.loop-u.u c.loop-u.invariant (omega arith)
