-- `is_active` asks the first three words. Assumes nothing.
use Rattle.group_lent_takes.proofs.Asking.{active_in}
use borrow.Author.Rules.{rules}
use Rattle.group_lent_takes.proofs.is_active.Goals as goal

pub returns : goal.returns
returns c = active_in c.args.w.now c.requires
