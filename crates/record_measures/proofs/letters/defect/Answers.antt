-- A vertex is left. Assumes nothing.
use native.Mathlib.Omega.{arith}
use mathlib.Core.Path.{◌∙◌}
use lib.ListN.{drop}
use Rattle.record_spec.specs.Reader.{rest}
use Rattle.record_measures.proofs.Rests.{short-D}
use Rattle.record_measures.proofs.Measuring.{none_measured}
use Rattle.record_measures.proofs.Plains.{is-D}
use borrow.Author.Rules.{rules}
use Rattle.record_measures.proofs.letters.defect.Goals as goal

pub returns-then-t-q-lt4 : goal.returns-then-t-q-lt4
returns-then-t-q-lt4 c =
    let a = c.args in
    c.nothing.ensures ∙ none_measured (rest 68 a.unit (drop a.q a.t.now)) (short-D a.t.now a.q a.unit (omega (arith, c.if-t-q-lt4.true, c.requires.0)))

pub returns : goal.returns
returns c =
    let a = c.args in
    let v = c.four_at-vertex in
    is-D a.t.now a.q a.unit c.requires.1 _ c.digits-a.ensures.0 v.result _ (omega (arith, c.if-t-q-lt4.false, c.requires.0)) v.ensures.0 v.ensures.1 c.digits-b.ensures.0
