-- The loop walks the circle as it was at the call, and lets its members out one by one; then the slot is emptied, the speed set and the bit taken out.
-- Assumes nothing.
use mathlib.Core.Path.{ap}
use native.Mathlib.Omega.{arith}
use Rattle.bench_words.specs.declared.Interface.{Interface}
use Rattle.bench_words.specs.declared.Node.{Node}
use Rattle.deed_circles.proofs.Freeing.{freeing_begins}
use Rattle.deed_circles.proofs.Bodies.{expand_reach, expand_can, expand_turns, expand_ends}
use Rattle.deed_circles.proofs.remove_blossom.Goals as goal

pub load_node-n-requires : goal.load_node-n-requires
load_node-n-requires c = let a = c.args in let r = expand_reach a.b.now a.unit a.h c.requires.0 c.requires.1 in omega (arith, r.home, r.slot)

pub load_interface-f-requires : goal.load_interface-f-requires
load_interface-f-requires c = let a = c.args in (expand_reach a.b.now a.unit a.h c.requires.0 c.requires.1).top

pub loop-init : goal.loop-init
loop-init c = freeing_begins c.args.b.now c.load_node-n.result.first c.requires.0

pub release-at-requires : goal.release-at-requires
release-at-requires c =
    let a = c.args in
    let n = c.load_node-n in
    expand_can a.b.now a.unit a.h c.requires.0 c.requires.1 n.result n.ensures c.loop.invariant c.loop-test.true c.load_interface-f.ensures c.lag-t.ensures

pub loop-preserved : goal.loop-preserved
loop-preserved c =
    let a = c.args in
    let n = c.load_node-n in
    let r = c.release-at in
    expand_turns a.b.now a.unit a.h c.requires.0 c.requires.1 n.result n.ensures r.new.b r.result c.loop.invariant c.loop-test.true r.ensures.0 r.ensures.1

pub store_node-requires : goal.store_node-requires
store_node-requires c =
    let a = c.args in let r = expand_reach a.b.now a.unit a.h c.requires.0 c.requires.1 in omega (arith, r.home, r.slot)

pub overflow_add-f : goal.overflow_add-f
overflow_add-f c =
    let a = c.args in
    let r = expand_reach a.b.now a.unit a.h c.requires.0 c.requires.1 in
    omega (arith, r.fast, ap (λ (x : Interface). x.speed) c.load_interface-f.ensures)

pub overflow_add-f-2 : goal.overflow_add-f-2
overflow_add-f-2 c =
    let a = c.args in
    let r = expand_reach a.b.now a.unit a.h c.requires.0 c.requires.1 in
    omega (arith, r.fast, r.few, ap (λ (x : Interface). x.speed) c.load_interface-f.ensures, ap (λ (x : Node). x.count) c.load_node-n.ensures)

pub overflow_sub-f : goal.overflow_sub-f
overflow_sub-f c =
    let a = c.args in
    let r = expand_reach a.b.now a.unit a.h c.requires.0 c.requires.1 in
    omega (arith, r.slow, ap (λ (x : Interface). x.speed) c.load_interface-f.ensures, c.rate_of-loss.ensures.1)

pub pace-requires : goal.pace-requires
pace-requires c =
    let a = c.args in (expand_reach a.b.now a.unit a.h c.requires.0 c.requires.1).top

pub unmark-requires : goal.unmark-requires
unmark-requires c =
    let a = c.args in let r = expand_reach a.b.now a.unit a.h c.requires.0 c.requires.1 in (r.home, r.slot)

pub returns : goal.returns
returns c =
    let n = c.load_node-n in
    let f = c.load_interface-f in
    expand_ends c.args.b.now c.args.unit c.args.h c.requires.0 c.requires.1 n.result n.ensures f.result
    c.loop.invariant (omega arith) f.ensures c.rate_of-loss.ensures.0 c.no_node.ensures c.store_node.ensures c.pace.ensures c.unmark.ensures
