-- The interfaces before v are done. Assumes nothing.
use native.Mathlib.Omega.{arith}
use Rattle.deed_raises.proofs.Raising.{begun, still_movable, one_more, tree_done}
use Rattle.deed_raises.proofs.raise_tree.Goals as goal

pub loop-v-init : goal.loop-v-init
loop-v-init c = begun c.args.b.now c.args.top c.args.length c.requires.steady c.requires.coded

pub raise_under-requires : goal.raise_under-requires
raise_under-requires c =
    let a = c.args in
    let l = c.loop-v in
    let lv = c.loop-v-test.true in
    record {
      unit_bound = lv;
      steady = l.invariant.steady;
      coded = l.invariant.coded;
      all_movable = still_movable a.b.now a.top a.length c.requires.bare l.b l.v l.invariant lv (c.requires.tree_movable l.v lv);
    }

pub loop-v-preserved : goal.loop-v-preserved
loop-v-preserved c =
    let a = c.args in
    let l = c.loop-v in
    one_more a.b.now a.top a.length c.requires.bare l.b l.v l.invariant c.loop-v-test.true c.raise_under.ensures

pub returns : goal.returns
returns c = tree_done c.loop-v.invariant (omega (arith, c.loop-v.auto, c.loop-v-test.false))
