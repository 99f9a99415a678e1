-- The slots before s are empty; each turn empties slot s. Assumes nothing.
use native.Mathlib.Omega.{arith}
use Rattle.deed_trees.proofs.Emptying.{emptied_none, emptied_more, emptied_all}
use Rattle.deed_trees.proofs.empty_slots.Goals as goal

pub loop-s-init : goal.loop-s-init
loop-s-init c = emptied_none c.args.b.now c.args.unit c.requires.2 c.requires.3

pub loop-s-preserved : goal.loop-s-preserved
loop-s-preserved c =
    let a = c.args in
    let l = c.loop-s in
    emptied_more a.b.now a.unit l.b c.store_node.new.b l.s c.no_node.result l.invariant c.requires.0 (omega arith) c.no_node.ensures c.store_node.ensures

pub returns : goal.returns
returns c = emptied_all c.loop-s.invariant (omega arith)
