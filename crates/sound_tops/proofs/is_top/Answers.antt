-- A parent is told by its case. Assumes nothing.
use Rattle.std.specs.Prelude.{None, Some}
use mathlib.Core.Path.{◌≡◌}
use Rattle.sound_tops.proofs.Pacing.{top_under, top_row}
use Rattle.sound_tops.proofs.is_top.Goals as goal

pub returns-in-Some : goal.returns-in-Some
returns-in-Some c = let q : c.load_interface-f.result.parent ≡ Some c.in-Some._p = cc in top_under c.args.b.now c.args.u c.load_interface-f.result c.load_interface-f.ensures c.in-Some._p q

pub returns-in-None : goal.returns-in-None
returns-in-None c = let q : c.load_interface-f.result.parent ≡ None = cc in top_row c.args.b.now c.args.u c.load_interface-f.result c.load_interface-f.ensures q c.width-w.result c.pace-p.result c.width-w.ensures c.pace-p.ensures
