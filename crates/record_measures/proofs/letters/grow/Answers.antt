-- A length is left. Assumes nothing.
use native.Mathlib.Omega.{arith}
use mathlib.Core.Path.{◌∙◌}
use lib.ListN.{drop}
use Rattle.record_spec.specs.Reader.{rest}
use Rattle.record_measures.proofs.Rests.{short-G}
use Rattle.record_measures.proofs.Measuring.{none_measured}
use Rattle.record_measures.proofs.Plains.{is-G}
use borrow.Author.Rules.{rules}
use Rattle.record_measures.proofs.letters.grow.Goals as goal

pub returns-then-t-q-lt8 : goal.returns-then-t-q-lt8
returns-then-t-q-lt8 c =
    let a = c.args in
    c.nothing.ensures ∙ none_measured (rest 71 a.unit (drop a.q a.t.now)) (short-G a.t.now a.q a.unit (omega (arith, c.if-t-q-lt8.true, c.requires.0)))

pub returns : goal.returns
returns c =
    let a = c.args in
    let v = c.eight_at-length in
    is-G a.t.now a.q a.unit c.requires.1 _ c.digits-a.ensures.0 v.result _ (omega (arith, c.if-t-q-lt8.false, c.requires.0)) v.ensures.0 v.ensures.1 c.length_digits-b.ensures.0
