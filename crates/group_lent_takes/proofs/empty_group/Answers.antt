-- Three words are written. Assumes nothing.
use Rattle.group_lent_takes.proofs.Asking.{emptied}
use borrow.Author.Rules.{rules}
use Rattle.group_lent_takes.proofs.empty_group.Goals as goal

pub returns : goal.returns
returns c = emptied c.args.w.now c.all_words.ensures
