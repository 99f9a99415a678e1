-- Below 1,024 the byte is stored; from there on the first 1,024 stay. Assumes nothing.
use native.Mathlib.Omega.{arith}
use Rattle.text_chunks.proofs.Feeding.{push_in, push_full}
use borrow.Author.Rules.{rules}
use Rattle.text_chunks.proofs.push.Goals as goal

pub returns-then-held-lt-MOST : goal.returns-then-held-lt-MOST
returns-then-held-lt-MOST c = (omega arith, push_in c.args.buf.now c.args.held c.args.b c.requires.0 c.if-held-lt-MOST.true)

pub returns : goal.returns
returns c = (c.requires.1, push_full c.args.buf.now c.args.held c.args.b c.requires.0 c.requires.1 c.if-held-lt-MOST.false)
