-- A serial is left, and is not 0. Assumes nothing.
use native.Mathlib.Omega.{arith}
use mathlib.Core.Path.{◌∙◌, sym}
use lib.ListN.{drop}
use Rattle.record_spec.specs.Reader.{rest}
use Rattle.record_measures.proofs.Rests.{short-E}
use Rattle.record_measures.proofs.Measuring.{none_measured}
use Rattle.record_measures.proofs.Plains.{is-E, zero-E}
use borrow.Author.Rules.{rules}
use Rattle.record_measures.proofs.letters.expand.Goals as goal

pub returns-then-t-q-lt4 : goal.returns-then-t-q-lt4
returns-then-t-q-lt4 c =
    let a = c.args in
    c.nothing.ensures ∙ none_measured (rest 69 a.unit (drop a.q a.t.now)) (short-E a.t.now a.q a.unit (omega (arith, c.if-t-q-lt4.true, c.requires.0)))

pub returns-then-serial-eq0 : goal.returns-then-serial-eq0
returns-then-serial-eq0 c =
    let a = c.args in
    c.nothing-then-serial-eq0.ensures ∙ zero-E a.t.now a.q a.unit c.requires.1 (omega (arith, c.if-t-q-lt4.false, c.requires.0)) (sym c.four_at-serial.ensures.0 ∙ c.if-serial-eq0.true)

pub returns : goal.returns
returns c =
    let v = c.four_at-serial in
    is-E c.args.t.now c.args.q c.args.unit c.requires.1 _ c.digits-a.ensures.0 v.result _ (omega (arith, c.if-t-q-lt4.false, c.requires.0)) v.ensures.0 v.ensures.1 (omega (arith, c.if-serial-eq0.false)) c.digits-b.ensures.0
