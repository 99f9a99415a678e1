-- A parent that is loaded is one of eight. Assumes nothing.
use Rattle.std.specs.Prelude.{Some}
use mathlib.Core.Path.{◌≡◌}
use Rattle.bench_words.specs.Store.{interface_at}
use Rattle.sound_trees.proofs.Rows.{good_under, half_known}
use Rattle.sound_trees.proofs.is_half.Goals as goal

pub load_interface-f-requires : goal.load_interface-f-requires
load_interface-f-requires c = let q : c.args.p ≡ Some c.in-Some.q = cc in good_under c.args.p c.in-Some.q c.requires.good_up q

pub returns-in-Some : goal.returns-in-Some
returns-in-Some c = let q : c.args.p ≡ Some c.in-Some.q = cc in half_known (interface_at c.args.b.now) c.args.p c.in-Some.q c.args.u c.load_interface-f.result q c.load_interface-f.ensures
