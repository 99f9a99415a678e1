-- The test of each slot before k is the definition's. Assumes nothing.
use mathlib.Core.Path.{refl}
use borrow.Author.Rules.{rules}
use borrow.Author.Tests.{tests}
use Rattle.sound_trees.proofs.Belows.{all_chained}
use Rattle.sound_serials.specs.Different.{unlike}
use Rattle.sound_serials.proofs.is_new.Goals as goal

pub returns : goal.returns
returns c = all_chained (unlike c.args.b.now c.args.serial) c.args.k _ _ _ refl c.all.ensures.ran (λ x b q k. search (rules, tests))
