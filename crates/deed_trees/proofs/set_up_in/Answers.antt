-- All words are erased; each turn stores one interface as empty; then the first serial. Assumes nothing.
use native.Mathlib.Omega.{arith}
use Rattle.deed_trees.proofs.Beginning.{filling_begins, filling_more, filled}
use Rattle.deed_trees.proofs.set_up_in.Goals as goal

pub loop-u-init : goal.loop-u-init
loop-u-init c = filling_begins _ c.erase.new.b c.erase.ensures

pub loop-u-preserved : goal.loop-u-preserved
loop-u-preserved c =
    let l = c.loop-u in
    filling_more _ l.b c.store_interface.new.b l.u l.invariant c.loop-u-test.true c.no_interface.ensures c.store_interface.ensures

pub returns : goal.returns
returns c =
    let l = c.loop-u in filled _ l.b c.store_next.new.b l.u c.args.first l.invariant (omega arith) c.store_next.ensures
