-- The lengths decide: refused, or the chunk's answers. Assumes nothing.
use native.Mathlib.Omega.{arith}
use mathlib.Core.Path.{sym, ◌∙◌}
use lib.ListN.{length}
use borrow.Author.Rules.{rules}
use Rattle.link_text.proofs.Lending.{fits, chunk_refused, chunk_done}
use Rattle.link_text.proofs.chunk_on_sound.Goals as goal

pub returns-then-number-ne0 : goal.returns-then-number-ne0
returns-then-number-ne0 c =
    let n = c.chunk_no-number in
    let a = c.args in
    chunk_refused a.b.now a.chunk.now a.buf.now a.held a.out.now n.result n.ensures c.if-number-ne0.true c.refused.result c.refused.ensures

pub answer_chunk-taken-requires : goal.answer_chunk-taken-requires
answer_chunk-taken-requires c =
    let n = c.chunk_no-number in
    let a = c.args in
    let f = fits a.held (length a.chunk.now) (length a.out.now) (sym n.ensures ∙ c.if-number-ne0.false) in
    (c.requires, search rules, search rules, f.0, omega (arith, f.1))

pub returns : goal.returns
returns c =
    let n = c.chunk_no-number in
    let a = c.args in
    chunk_done a.b.now a.chunk.now a.buf.now a.held a.out.now n.result n.ensures c.if-number-ne0.false c.answer_chunk-taken.ensures
