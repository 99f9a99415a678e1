-- The test of each used slot is the definition's. Assumes nothing.
use mathlib.Core.Path.{refl}
use borrow.Author.Rules.{rules}
use borrow.Author.Tests.{tests}
use Rattle.sound_trees.proofs.Belows.{all_chained}
use Rattle.sound_floors.specs.Floors.{slot_afloat}
use Rattle.sound_floors.proofs.are_afloat.Goals as goal

pub returns : goal.returns
returns c = all_chained (slot_afloat c.args.b.now c.args.u c.args.t) c.args.used _ _ _ refl c.all.ensures.ran (λ x b q k. search (rules, tests))
