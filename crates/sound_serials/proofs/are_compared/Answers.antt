-- The test of each slot is the definition's. Assumes nothing.
use mathlib.Core.Path.{refl}
use borrow.Author.Rules.{rules}
use borrow.Author.Tests.{tests}
use Rattle.sound_trees.proofs.Belows.{all_chained}
use Rattle.sound_serials.specs.Different.{once_test}
use Rattle.sound_serials.proofs.are_compared.Goals as goal

pub returns : goal.returns
returns c = all_chained (once_test c.args.b.now) 512 _ _ _ refl c.all.ensures.ran (λ x b q k. search (rules, tests))
