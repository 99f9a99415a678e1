-- Set-up's own promise. Assumes nothing.
use borrow.Author.Rules.{rules}
use Rattle.text_sessions.proofs.Session.{started}
use Rattle.text_sessions.proofs.start.Goals as goal

pub returns : goal.returns
returns c = started c.set_up.new.b c.set_up.ensures
