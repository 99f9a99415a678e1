-- A parent that is loaded is one of eight. Assumes nothing.
use Rattle.std.specs.Prelude.{Some}
use mathlib.Core.Path.{◌≡◌}
use Rattle.bench_words.specs.Store.{interface_at}
use Rattle.sound_trees.proofs.Rows.{good_under}
use Rattle.sound_floors.proofs.Rows.{level_under}
use Rattle.sound_floors.proofs.is_level.Goals as goal

pub load_interface-f-requires : goal.load_interface-f-requires
load_interface-f-requires c = let a = c.args in let q : a.p ≡ Some c.in-Some.q = cc in good_under a.p c.in-Some.q c.requires q

pub returns-in-Some : goal.returns-in-Some
returns-in-Some c = let a = c.args in let q : a.p ≡ Some c.in-Some.q = cc in level_under (interface_at a.b.now) a.p c.in-Some.q a.floored c.load_interface-f.result q c.load_interface-f.ensures
