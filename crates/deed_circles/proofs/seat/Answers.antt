-- The seat is made of what the callees give. Assumes nothing.
use Rattle.deed_circles.proofs.seat.Goals as goal

pub returns : goal.returns
returns c = simp (c.following-next.ensures, c.touch-left.ensures, c.touch-right.ensures)
