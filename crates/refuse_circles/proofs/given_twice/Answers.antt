-- Either way of looking gives it; the marks start blank. Assumes nothing.
use mathlib.Core.Path.{refl}
use Rattle.refuse_circles.proofs.Seen.{blank}
use Rattle.refuse_circles.proofs.given_twice.Goals as goal

pub marked_twice-requires : goal.marked_twice-requires
marked_twice-requires c = (c.requires, blank 512 refl)
