-- The parts of the test, of the node that is loaded. Assumes nothing.
use Prim.Native.Nat.{◌+◌, ◌*◌}
use Rattle.sound_nodes.proofs.Slots.{good_parent, node_uncoded, node_row}
use Rattle.sound_nodes.proofs.is_node.Goals as goal

pub returns-then-not-is_coded : goal.returns-then-not-is_coded
returns-then-not-is_coded c = node_uncoded c.args.b.now c.args.u c.args.s c.is_coded.result c.is_coded.ensures (c.if-not-is_coded.true)

pub is_parent-seat-requires : goal.is_parent-seat-requires
is_parent-seat-requires c = record { steady = c.requires.steady; good_parent = good_parent c.args.b.now (c.args.u * 64 + c.args.s) c.load_node-n.result c.load_node-n.ensures }

pub returns : goal.returns
returns c =
    node_row c.args.b.now c.args.u c.args.s c.is_coded.result c.is_coded.ensures (c.if-not-is_coded.false) c.args.g c.requires.grounds c.load_next-next.result c.load_next-next.ensures c.load_node-n.result c.load_node-n.ensures c.is_near-near.result c.is_class-class.result c.is_parent-seat.result c.is_near-near.ensures c.is_class-class.ensures c.is_parent-seat.ensures
