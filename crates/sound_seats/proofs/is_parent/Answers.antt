-- A parent is told by its case. Assumes nothing.
use Rattle.std.specs.Prelude.{None, Some}
use mathlib.Core.Path.{◌≡◌}
use Rattle.sound_seats.proofs.Seating.{parent_none, parent_some, good_inside}
use Rattle.sound_seats.proofs.is_parent.Goals as goal

pub is_seated-requires : goal.is_seated-requires
is_seated-requires c = let q : c.args.n.parent ≡ Some c.in-Some.q = cc in record { steady = c.requires.steady; good_handle = good_inside c.args.b.now c.args.k c.args.top c.args.n c.in-Some.q c.requires.good_parent q }

pub returns-in-None : goal.returns-in-None
returns-in-None c = let q : c.args.n.parent ≡ None = cc in parent_none c.args.b.now c.args.k c.args.top c.args.n q c.is_alone.result c.is_alone.ensures

pub returns-in-Some : goal.returns-in-Some
returns-in-Some c = let q : c.args.n.parent ≡ Some c.in-Some.q = cc in parent_some c.args.b.now c.args.k c.args.top c.args.n c.in-Some.q q c.is_seated.result c.is_seated.ensures
