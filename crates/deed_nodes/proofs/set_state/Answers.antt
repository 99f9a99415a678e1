-- What the passed tests say reaches the node and its tree's top; the words stored are those of the law of set state. Assumes nothing.
use mathlib.Core.Path.{ap}
use native.Mathlib.Omega.{arith}
use borrow.Author.Rules.{rules}
use Rattle.bench_words.specs.declared.Interface.{Interface}
use Rattle.deed_nodes.proofs.Bodies.{set_reach, set_by, ranged_of}
use Rattle.deed_nodes.proofs.set_state.Goals as goal

pub climb-up-requires : goal.climb-up-requires
climb-up-requires c = let a = c.args in let r = set_reach a.b.now a.unit a.h a.state c.requires.0 c.requires.1 in record { unit_bound = r.home; steady = r.steady }

pub load_node-n-requires : goal.load_node-n-requires
load_node-n-requires c = let a = c.args in let r = set_reach a.b.now a.unit a.h a.state c.requires.0 c.requires.1 in omega (arith, r.home, r.slot)

pub load_interface-f-requires : goal.load_interface-f-requires
load_interface-f-requires c =
    (set_reach c.args.b.now c.args.unit c.args.h c.args.state c.requires.0 c.requires.1).top

pub remark-m-requires : goal.remark-m-requires
remark-m-requires c =
    let r = set_reach c.args.b.now c.args.unit c.args.h c.args.state c.requires.0 c.requires.1 in
    (ranged_of c.load_node-n.ensures r.ranged, c.climb-up.ensures.small)

pub store_node-requires : goal.store_node-requires
store_node-requires c =
    let r = set_reach c.args.b.now c.args.unit c.args.h c.args.state c.requires.0 c.requires.1 in omega (arith, r.home, r.slot)

pub overflow_add-f : goal.overflow_add-f
overflow_add-f c =
    let r = set_reach c.args.b.now c.args.unit c.args.h c.args.state c.requires.0 c.requires.1 in
    omega (arith, r.fast, ap (λ (x : Interface). x.speed) c.load_interface-f.ensures, c.rate_of-gain.ensures.1)

pub overflow_sub-f : goal.overflow_sub-f
overflow_sub-f c =
    let r = set_reach c.args.b.now c.args.unit c.args.h c.args.state c.requires.0 c.requires.1 in
    omega (arith, r.slow, ap (λ (x : Interface). x.speed) c.load_interface-f.ensures, c.rate_of-loss.ensures.1)

pub pace-requires : goal.pace-requires
pace-requires c =
    (set_reach c.args.b.now c.args.unit c.args.h c.args.state c.requires.0 c.requires.1).top

pub returns : goal.returns
returns c =
    set_by c.args.b.now c.args.unit c.args.h c.args.state c.requires.0 c.requires.1 c.load_node-n.result c.load_interface-f.result c.remark-m.result
    c.climb-up.ensures c.load_node-n.ensures c.load_interface-f.ensures c.no_seat.ensures c.remark-m.ensures c.store_node.ensures c.rate_of-gain.ensures.0 c.rate_of-loss.ensures.0 c.pace.ensures
