-- The interface that is stored is the one loaded, with the mark. Assumes nothing.
use Rattle.deed_marks.proofs.Marking.{mark_low, filling_done}
use Rattle.deed_marks.proofs.mark_filling.Goals as goal

pub load_interface-f-requires : goal.load_interface-f-requires
load_interface-f-requires c = let a = c.args in mark_low a.b.now a.unit c.requires.0 c.requires.1

pub store_interface-requires : goal.store_interface-requires
store_interface-requires c = let a = c.args in mark_low a.b.now a.unit c.requires.0 c.requires.1

pub returns : goal.returns
returns c =
    let a = c.args in
    filling_done a.b.now a.unit c.requires.0 c.requires.1 c.load_interface-f.result c.load_interface-f.ensures c.store_interface.ensures
