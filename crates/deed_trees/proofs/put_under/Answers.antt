-- The interface that is stored is the one loaded, with the parent. Assumes nothing.
use Rattle.deed_trees.proofs.put_under.Goals as goal

pub returns : goal.returns
returns c = simp (c.store_interface.ensures, c.load_interface-f.ensures)
