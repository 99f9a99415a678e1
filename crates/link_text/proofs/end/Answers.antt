-- The slice's length decides. Assumes nothing.
use native.Mathlib.Omega.{arith}
use borrow.Author.Rules.{rules}
use Rattle.link_text.proofs.Lending.{end_small, end_done}
use Rattle.link_text.proofs.end.Goals as goal

pub returns-then-out-lt57 : goal.returns-then-out-lt57
returns-then-out-lt57 c =
    let a = c.args in
    end_small a.held a.out.now c.if-out-lt57.true c.refused.result c.refused.ensures

pub returns : goal.returns
returns c =
    let a = c.args in
    end_done a.held a.out.now (omega (arith, c.if-out-lt57.false)) c.finish-wrote.ensures
