-- Its own index, or a bracket, two indices with a comma between, and a bracket. Assumes nothing.
use Rattle.picture_pieces.proofs.Drawing.{chain, same_text}
use Rattle.picture_circles.proofs.Members.{left_low, right_low, own_item, touch_item}
use Rattle.picture_circles.proofs.put_member.Goals as goal

pub returns-then-not-touching : goal.returns-then-not-touching
returns-then-not-touching c =
    same_text (own_item c.args.b.now c.args.unit c.args.index.now c.requires.indices c.args.q c.requires.q_bound c.args.touching (c.if-not-touching.true)) c.put_number.ensures

pub index_of-i-requires : goal.index_of-i-requires
index_of-i-requires c = let rest = left_low c.args.b.now c.args.q c.load_node-n.result c.load_node-n.ensures in record { indices = c.requires.indices; unit_bound = rest.0; slot_bound = rest.1 }

pub index_of-j-requires : goal.index_of-j-requires
index_of-j-requires c = let rest = right_low c.args.b.now c.args.q c.load_node-n.result c.load_node-n.ensures in record { indices = c.requires.indices; unit_bound = rest.0; slot_bound = rest.1 }

pub returns : goal.returns
returns c =
    same_text (touch_item c.args.b.now c.args.unit c.args.index.now c.requires.indices c.args.q c.requires.q_bound c.args.touching (c.if-not-touching.false) c.load_node-n.result c.load_node-n.ensures c.index_of-i.result c.index_of-j.result c.index_of-i.ensures c.index_of-j.ensures)
    (chain c.put-p.ensures (chain c.put_number-x.ensures (chain c.put-y.ensures (chain c.put_number-z.ensures c.put.ensures))))
