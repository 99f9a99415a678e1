-- A parent is told by its case. Assumes nothing.
use Rattle.std.specs.Prelude.{Some}
use mathlib.Core.Path.{◌≡◌}
use Rattle.sound_trees.proofs.Rows.{under_known}
use Rattle.sound_trees.proofs.is_under.Goals as goal

pub returns-in-Some : goal.returns-in-Some
returns-in-Some c = let q : c.args.p ≡ Some c.in-Some.q = cc in under_known c.args.p c.in-Some.q c.args.u q
