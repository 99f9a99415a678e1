-- The first line ends in the chunk, or does not. Assumes nothing.
use mathlib.Core.Path.{sym}
use native.Mathlib.Omega.{arith}
use borrow.Author.Tests.{not-false}
use lib.ListN.{take}
use lib.Seq.{length-take-le}
use Rattle.text_sessions.proofs.Opening.{opening_part, opening_room, opening_line}
use borrow.Author.Rules.{rules}
use Rattle.text_sessions.proofs.answer_opening.Goals as goal

pub returns-then-not-f : goal.returns-then-not-f
returns-then-not-f c =
    opening_part c.args.chunk.now (take c.args.before c.args.buf.now) c.feed-f.new.buf c.feed-f.result.ended c.feed-f.result.held c.feed-f.result.at c.feed-f.ensures c.args.out.now c.if-not-f.true c.start.new.b c.start.ensures

pub slice_bounds-answer_first-end-2 : goal.slice_bounds-answer_first-end-2
slice_bounds-answer_first-end-2 c =
    let f = c.feed-f.ensures in sym (length-take-le _ _ (omega (arith, f.short, f.long)))

pub answer_first-first-requires : goal.answer_first-first-requires
answer_first-first-requires c =
    (c.start.ensures, c.requires.0, omega (arith, c.requires.3, c.feed-f.ensures.in_chunk, c.feed-f.ensures.on (not-false _ c.if-not-f.false)))

pub answer_rest-requires : goal.answer_rest-requires
answer_rest-requires c =
    let a = c.args in (
      c.answer_first-first.ensures.words,
      omega (arith, c.requires.0, c.answer_first-first.auto.serials),
      c.feed-f.ensures.long,
      omega arith,
      c.feed-f.ensures.in_chunk,
      opening_room a.chunk.now (take a.before a.buf.now) c.feed-f.new.buf c.feed-f.result.ended c.feed-f.result.held c.feed-f.result.at c.feed-f.ensures a.out.now c.answer_first-first.new.b c.answer_first-first.new.out c.answer_first-first.result c.if-not-f.false c.answer_first-first.ensures,
      omega (arith, c.requires.3, c.answer_first-first.auto.out),
    )

pub returns : goal.returns
returns c =
    opening_line c.args.chunk.now (take c.args.before c.args.buf.now) c.feed-f.new.buf c.feed-f.result.ended c.feed-f.result.held c.feed-f.result.at c.feed-f.ensures c.args.out.now c.if-not-f.false
    c.answer_first-first.new.b c.answer_first-first.new.out c.answer_first-first.result c.answer_first-first.ensures c.answer_rest.new.b c.answer_rest.new.buf c.answer_rest.new.out c.answer_rest.result.held c.answer_rest.result.wrote c.answer_rest.ensures
