-- The test of each of the eight is the definition's. Assumes nothing.
use mathlib.Core.Path.{refl}
use borrow.Author.Rules.{rules}
use borrow.Author.Tests.{tests}
use Rattle.sound_trees.proofs.Belows.{all_chained}
use Rattle.sound_tops.specs.Tops.{top_test}
use Rattle.sound_tops.proofs.are_tops.Goals as goal

pub returns : goal.returns
returns c = all_chained (top_test c.args.b.now) 8 _ _ _ refl c.all.ensures.ran (λ x b q k. search (rules, tests))
