-- The node at the position, re-marked at its T and stored back; its next was read before. Assumes nothing.
use mathlib.Core.Path.{refl}
use native.Mathlib.Omega.{arith}
use Rattle.deed_circles.proofs.Bodies.{ranged_at, release_by}
use Rattle.deed_circles.proofs.release.Goals as goal

pub total_of-total-requires : goal.total_of-total-requires
total_of-total-requires c = let p = c.requires in (p.1, omega (arith, p.0), p.3)

pub remark-m-requires : goal.remark-m-requires
remark-m-requires c = (ranged_at c.args.b.now c.load_node-n.result c.load_node-n.ensures refl c.requires.2, c.total_of-total.ensures.1)

pub returns : goal.returns
returns c =
    release_by c.args.b.now c.args.at c.load_node-n.result c.remark-m.result c.total_of-total.ensures.0 c.load_node-n.ensures c.no_seat.ensures c.remark-m.ensures c.store_node.ensures
