-- Read or written by cases of the word or the value. Assumes nothing.
use borrow.Author.Tests.{ne_eqb}
use borrow.Author.Rules.{rules}
use Rattle.bench_words.proofs.parent_of.Goals as goal

pub returns-then-w-eq0 : goal.returns-then-w-eq0
returns-then-w-eq0 c = rw c.if-w-eq0.true

pub returns : goal.returns
returns c = simp (ne_eqb _ _ c.if-w-eq0.false, c.handle_of.ensures)
