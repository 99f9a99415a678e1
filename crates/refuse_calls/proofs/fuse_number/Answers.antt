-- The number is that of the first test that holds. Assumes nothing.
use Rattle.bench_views.specs.View.{view}
use Rattle.refuse_calls.proofs.Fuses.{fuse_low, fuse_out, fuse_child, fuse_order, fuse_used, fuse_mixed, fuse_fine}
use Rattle.refuse_calls.proofs.fuse_number.Goals as goal

pub returns-then-any_outside : goal.returns-then-any_outside
returns-then-any_outside c = fuse_out (view c.args.b.now) c.args.parent c.args.left c.args.right c.any_outside.result c.any_outside.ensures c.if-any_outside.true

pub any_child-requires : goal.any_child-requires
any_child-requires c = fuse_low (view c.args.b.now) c.args.parent c.args.left c.args.right c.any_outside.result c.any_outside.ensures c.if-any_outside.false

pub returns-then-any_child : goal.returns-then-any_child
returns-then-any_child c = fuse_child (view c.args.b.now) c.args.parent c.args.left c.args.right c.any_outside.result c.any_outside.ensures c.if-any_outside.false c.any_child.result c.any_child.ensures c.if-any_child.true

pub returns-then-out_of_order : goal.returns-then-out_of_order
returns-then-out_of_order c =
    fuse_order (view c.args.b.now) c.args.parent c.args.left c.args.right c.any_outside.result c.any_outside.ensures c.if-any_outside.false c.any_child.result c.any_child.ensures c.if-any_child.false c.out_of_order.result c.out_of_order.ensures c.if-out_of_order.true

pub is_used-requires : goal.is_used-requires
is_used-requires c =
    (fuse_low (view c.args.b.now) c.args.parent c.args.left c.args.right c.any_outside.result c.any_outside.ensures c.if-any_outside.false).0

pub returns-then-is_used : goal.returns-then-is_used
returns-then-is_used c =
    fuse_used (view c.args.b.now) c.args.parent c.args.left c.args.right c.any_outside.result c.any_outside.ensures c.if-any_outside.false c.any_child.result c.any_child.ensures c.if-any_child.false c.out_of_order.result c.out_of_order.ensures c.if-out_of_order.false c.is_used.result c.is_used.ensures c.if-is_used.true

pub floors_differ-requires : goal.floors_differ-requires
floors_differ-requires c =
    let q = fuse_low (view c.args.b.now) c.args.parent c.args.left c.args.right c.any_outside.result c.any_outside.ensures c.if-any_outside.false in
    (q.1, q.2)

pub returns-then-floors_differ : goal.returns-then-floors_differ
returns-then-floors_differ c =
    fuse_mixed (view c.args.b.now) c.args.parent c.args.left c.args.right c.any_outside.result c.any_outside.ensures c.if-any_outside.false
    c.any_child.result c.any_child.ensures c.if-any_child.false c.out_of_order.result c.out_of_order.ensures c.if-out_of_order.false
    c.is_used.result c.is_used.ensures c.if-is_used.false c.floors_differ.result c.floors_differ.ensures c.if-floors_differ.true

pub returns : goal.returns
returns c =
    fuse_fine (view c.args.b.now) c.args.parent c.args.left c.args.right c.any_outside.result c.any_outside.ensures c.if-any_outside.false
    c.any_child.result c.any_child.ensures c.if-any_child.false c.out_of_order.result c.out_of_order.ensures c.if-out_of_order.false
    c.is_used.result c.is_used.ensures c.if-is_used.false c.floors_differ.result c.floors_differ.ensures c.if-floors_differ.false
