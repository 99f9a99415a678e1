-- The node at the handle's place, re-marked at its T and stored back. Assumes nothing.
use native.Mathlib.Omega.{arith}
use Rattle.deed_circles.proofs.Bodies.{ranged_at, take_by}
use Rattle.deed_circles.proofs.take_in.Goals as goal

pub total_of-total-requires : goal.total_of-total-requires
total_of-total-requires c = let p = c.requires in (p.0, omega (arith, c.spot-k.ensures.1), p.2)

pub remark-m-requires : goal.remark-m-requires
remark-m-requires c = (ranged_at c.args.b.now c.load_node-n.result c.load_node-n.ensures c.spot-k.ensures.0 c.requires.1, c.total_of-total.ensures.1)

pub returns : goal.returns
returns c =
    take_by c.args.b.now c.args.w c.args.seat c.load_node-n.result c.remark-m.result c.spot-k.ensures.0 c.total_of-total.ensures.0 c.load_node-n.ensures c.remark-m.ensures c.store_node.ensures c.rate_of-rate.ensures.0 c.rate_of-rate.ensures.1
