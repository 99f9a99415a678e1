-- Set-up in the lazy engine. Assumes nothing.
use borrow.Author.Rules.{rules}
use Rattle.call_set_up.proofs.Opening.{lazily}
use Rattle.call_set_up.proofs.set_up.Goals as goal

pub returns : goal.returns
returns c = lazily c.set_up_in.ensures
