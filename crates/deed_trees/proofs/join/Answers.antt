-- The sums and speeds of two tops add up below 2^64; the words stored are those of the law of fuse. Assumes nothing.
use native.Mathlib.Omega.{arith}
use Rattle.deed_trees.proofs.Fusing.{p<8, l<8, r<8, join_room, join_by}
use Rattle.deed_trees.proofs.join.Goals as goal

pub load_interface-l-requires : goal.load_interface-l-requires
load_interface-l-requires c = let a = c.args in l<8 a.b.now a.parent a.left a.right c.requires.0 c.requires.1

pub load_interface-r-requires : goal.load_interface-r-requires
load_interface-r-requires c = let a = c.args in r<8 a.b.now a.parent a.left a.right c.requires.0 c.requires.1

pub load_interface-p-requires : goal.load_interface-p-requires
load_interface-p-requires c = let a = c.args in p<8 a.b.now a.parent a.left a.right c.requires.0 c.requires.1

pub put_under-requires : goal.put_under-requires
put_under-requires c =
    (l<8 c.args.b.now c.args.parent c.args.left c.args.right c.requires.0 c.requires.1, p<8 c.args.b.now c.args.parent c.args.left c.args.right c.requires.0 c.requires.1)

pub put_under-requires-2 : goal.put_under-requires-2
put_under-requires-2 c =
    (r<8 c.args.b.now c.args.parent c.args.left c.args.right c.requires.0 c.requires.1, p<8 c.args.b.now c.args.parent c.args.left c.args.right c.requires.0 c.requires.1)

pub overflow_add-l : goal.overflow_add-l
overflow_add-l c =
    let r = join_room c.args.b.now c.args.parent c.args.left c.args.right c.requires.0 c.requires.1 c.load_interface-l.result c.load_interface-r.result c.load_interface-l.ensures c.load_interface-r.ensures in
    omega (arith, r.sum_high)

pub overflow_sub-l : goal.overflow_sub-l
overflow_sub-l c =
    let r = join_room c.args.b.now c.args.parent c.args.left c.args.right c.requires.0 c.requires.1 c.load_interface-l.result c.load_interface-r.result c.load_interface-l.ensures c.load_interface-r.ensures in
    omega (arith, r.sum_low)

pub overflow_add-l-2 : goal.overflow_add-l-2
overflow_add-l-2 c =
    let r = join_room c.args.b.now c.args.parent c.args.left c.args.right c.requires.0 c.requires.1 c.load_interface-l.result c.load_interface-r.result c.load_interface-l.ensures c.load_interface-r.ensures in
    omega (arith, r.speed_high)

pub overflow_sub-l-2 : goal.overflow_sub-l-2
overflow_sub-l-2 c =
    let r = join_room c.args.b.now c.args.parent c.args.left c.args.right c.requires.0 c.requires.1 c.load_interface-l.result c.load_interface-r.result c.load_interface-l.ensures c.load_interface-r.ensures in
    omega (arith, r.speed_low)

pub overflow_add-left : goal.overflow_add-left
overflow_add-left c =
    omega (arith, l<8 c.args.b.now c.args.parent c.args.left c.args.right c.requires.0 c.requires.1)

pub overflow_add-right : goal.overflow_add-right
overflow_add-right c =
    omega (arith, r<8 c.args.b.now c.args.parent c.args.left c.args.right c.requires.0 c.requires.1)

pub store_interface-requires : goal.store_interface-requires
store_interface-requires c =
    p<8 c.args.b.now c.args.parent c.args.left c.args.right c.requires.0 c.requires.1

pub returns : goal.returns
returns c =
    join_by c.args.b.now c.args.parent c.args.left c.args.right c.requires.0 c.requires.1 c.load_interface-l.result c.load_interface-r.result c.load_interface-p.result
    c.load_interface-l.ensures c.load_interface-r.ensures c.load_interface-p.ensures c.put_under.ensures c.put_under-2.ensures c.store_interface.ensures
