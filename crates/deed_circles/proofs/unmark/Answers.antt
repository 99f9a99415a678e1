-- The bit is taken out of the word that is loaded. Assumes nothing.
use Rattle.deed_circles.proofs.unmark.Goals as goal

pub returns : goal.returns
returns c = simp (c.store_map.ensures, c.without.ensures, c.load_map-map.ensures)
