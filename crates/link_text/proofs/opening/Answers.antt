-- The lengths decide: refused, or the bench set up and the chunk's answers. Assumes nothing.
use native.Mathlib.Omega.{arith}
use mathlib.Core.Path.{sym, ◌∙◌}
use lib.ListN.{length}
use borrow.Author.Rules.{rules}
use Rattle.link_text.proofs.Lending.{fits, opening_refused, opening_done}
use Rattle.link_text.proofs.opening.Goals as goal

pub returns-then-number-ne0 : goal.returns-then-number-ne0
returns-then-number-ne0 c =
    let n = c.chunk_no-number in
    let a = c.args in
    opening_refused a.b.now a.chunk.now a.buf.now a.held a.out.now n.result n.ensures c.if-number-ne0.true c.refused.result c.refused.ensures

pub answer_opening-taken-requires : goal.answer_opening-taken-requires
answer_opening-taken-requires c =
    let n = c.chunk_no-number in
    let a = c.args in
    let f = fits a.held (length a.chunk.now) (length a.out.now) (sym n.ensures ∙ c.if-number-ne0.false) in
    (search rules, search rules, f.0, omega (arith, f.1))

pub returns : goal.returns
returns c =
    let n = c.chunk_no-number in
    let a = c.args in
    opening_done a.b.now a.chunk.now a.buf.now a.held a.out.now n.result n.ensures c.if-number-ne0.false c.answer_opening-taken.ensures
