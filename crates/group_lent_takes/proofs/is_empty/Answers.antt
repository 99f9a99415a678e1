-- `is_empty` asks the first two words. Assumes nothing.
use Rattle.group_lent_takes.proofs.Asking.{empty_in}
use borrow.Author.Rules.{rules}
use Rattle.group_lent_takes.proofs.is_empty.Goals as goal

pub returns : goal.returns
returns c = empty_in c.args.w.now c.requires
