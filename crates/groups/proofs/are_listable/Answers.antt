-- `are_listable` tests each entry for itself, as the definition does. Assumes nothing.
use Rattle.std.proofs.Common.{◌∙◌, rules, take}
use borrow.Author.Tests.{tests}
use Rattle.std.proofs.lemmas.Iterator.{YieldsList-from_slice}
use Rattle.std.proofs.lemmas.Iterator.Search.{all_from_yields_List}
use Rattle.kinds.specs.Obstacles.{listable}
use Rattle.groups.proofs.Loops.{listable_by_all}
use Rattle.groups.proofs.are_listable.Goals as goal

pub returns : goal.returns
returns c =
    all_from_yields_List (λ e. listable e.obstacle) _ _ c.all.result c.all.ensures.ran
    (YieldsList-from_slice (take c.args.n c.args.list) cc) (λ x b q k. search (rules, tests))
    ∙ listable_by_all _
