-- Each entry is tested for itself, as the definition does. Assumes nothing.
use Rattle.std.proofs.Common.{◌∙◌, refl, arith, rules}
use borrow.Author.Tests.{tests}
use Rattle.std.proofs.lemmas.Iterator.{YieldsList-from_range}
use Rattle.std.proofs.lemmas.Iterator.Search.{all_from_yields_List}
use Rattle.group_lent_sound.specs.Test.{entry_fits}
use Rattle.group_lent_sound.proofs.Fits.{entries_by_all}
use Rattle.group_lent_sound.proofs.entries_fit.Goals as goal

pub returns : goal.returns
returns c =
    all_from_yields_List (entry_fits c.args.w.now) _ _ c.all.result c.all.ensures.ran
    (YieldsList-from_range 0 c.args.n c.args.n refl (omega arith)) (λ x b q k. search (rules, tests))
    ∙ entries_by_all c.args.w.now 0 c.args.n
