-- The slot's bit is put, and the interface's words are those loaded, with the slot among the used ones. Assumes nothing.
use Rattle.deed_nodes.proofs.Bodies.{push_by}
use borrow.Author.Rules.{rules}
use Rattle.deed_nodes.proofs.push.Goals as goal

pub returns : goal.returns
returns c =
    let a = c.args in
    push_by a.b.now a.unit a.slot a.n a.speed c.load_interface-home.result c.load_interface-home.ensures c.load_next-next.ensures c.load_map-map.ensures c.used_with.ensures
    c.store_node.ensures c.store_interface.ensures c.with.ensures c.store_map.ensures c.store_next.ensures
