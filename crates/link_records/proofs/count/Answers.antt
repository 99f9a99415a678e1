-- The scan says it. Assumes nothing.
use borrow.Author.Rules.{rules}
use Rattle.link_records.proofs.Counting.{whole, no_file}
use Rattle.link_records.proofs.count.Goals as goal

pub returns-then-w : goal.returns-then-w
returns-then-w c = whole c.args.file.now c.scan-w.result c.scan-w.ensures c.if-w.true

pub returns : goal.returns
returns c = no_file c.args.file.now c.scan-w.result c.scan-w.ensures c.if-w.false
