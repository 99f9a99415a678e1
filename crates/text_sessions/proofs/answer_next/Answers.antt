-- The first line is past, or is not. Assumes nothing.
use lib.ListN.{take}
use Rattle.text_sessions.proofs.Opening.{next_first, next_later}
use borrow.Author.Rules.{rules}
use Rattle.text_sessions.proofs.answer_next.Goals as goal

pub returns-then-fresh : goal.returns-then-fresh
returns-then-fresh c =
    next_first c.args.fresh c.args.b.now c.args.chunk.now (take c.args.before c.args.buf.now) c.args.out.now c.answer_opening.new.b c.answer_opening.new.buf c.answer_opening.new.out c.answer_opening.result.held c.answer_opening.result.wrote c.if-fresh.true c.answer_opening.ensures

pub returns : goal.returns
returns c =
    next_later c.args.fresh c.args.b.now c.args.chunk.now (take c.args.before c.args.buf.now) c.args.out.now c.answer_chunk.new.b c.answer_chunk.new.buf c.answer_chunk.new.out c.answer_chunk.result.held c.answer_chunk.result.wrote c.if-fresh.false c.answer_chunk.ensures
