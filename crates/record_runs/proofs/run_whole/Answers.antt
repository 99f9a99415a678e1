-- SMALL, or every operation. Assumes nothing.
use native.Mathlib.Omega.{arith}
use Rattle.record_runs.proofs.Ending.{ran_small, ran_all}
use borrow.Author.Rules.{rules}
use Rattle.record_runs.proofs.run_whole.Goals as goal

pub returns-then-answers-count : goal.returns-then-answers-count
returns-then-answers-count c =
    let a = c.args in
    ran_small a.b.now a.file.now a.answers.now c.requires.0 a.list a.count c.requires.1 c.if-answers-count.true c.refused.result c.refused.ensures

pub go-requires : goal.go-requires
go-requires c =
    (c.requires.0, record { listing = c.requires.1; fits = omega (arith, c.if-answers-count.false) })

pub returns : goal.returns
returns c =
    let a = c.args in
    ran_all a.b.now a.file.now a.answers.now c.requires.0 a.list a.count c.requires.1 c.if-answers-count.false _ _ c.go.ensures
