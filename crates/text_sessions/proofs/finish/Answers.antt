-- Nothing held is nothing; anything held is LINE. Assumes nothing.
use borrow.Author.Rules.{rules}
use Rattle.text_sessions.proofs.Session.{finished_none, finished_some}
use Rattle.text_sessions.proofs.finish.Goals as goal

pub returns-then-held-eq0 : goal.returns-then-held-eq0
returns-then-held-eq0 c = let a = c.args in finished_none a.held a.out.now a.at c.if-held-eq0.true

pub returns : goal.returns
returns c = let a = c.args in finished_some a.held a.out.now a.at c.if-held-eq0.false c.write_answer.new.out c.write_answer.result c.write_answer.ensures
