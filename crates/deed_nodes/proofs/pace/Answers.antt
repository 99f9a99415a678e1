-- The interface that is stored is the one loaded, with the speed. Assumes nothing.
use borrow.Author.Rules.{rules}
use Rattle.deed_nodes.proofs.Bodies.{pace_by}
use Rattle.deed_nodes.proofs.pace.Goals as goal

pub returns : goal.returns
returns c =
    let a = c.args in
    pace_by a.b.now a.unit a.speed c.load_interface-f.result c.load_interface-f.ensures c.store_interface.ensures
