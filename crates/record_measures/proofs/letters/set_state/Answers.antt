-- A serial that is not 0 and a state's byte are left. Assumes nothing.
use native.Mathlib.Omega.{arith}
use mathlib.Core.Path.{◌∙◌, sym}
use lib.ListN.{drop}
use Rattle.record_spec.specs.Reader.{rest}
use Rattle.record_measures.proofs.Rests.{short-S}
use Rattle.record_measures.proofs.Measuring.{none_measured}
use Rattle.record_measures.proofs.Plains.{is-S, zero-S, wrong-S}
use borrow.Author.Rules.{rules}
use Rattle.record_measures.proofs.letters.set_state.Goals as goal

pub returns-then-t-q-lt5 : goal.returns-then-t-q-lt5
returns-then-t-q-lt5 c =
    let a = c.args in
    c.nothing.ensures ∙ none_measured (rest 83 a.unit (drop a.q a.t.now)) (short-S a.t.now a.q a.unit (omega (arith, c.if-t-q-lt5.true, c.requires.0)))

pub returns-then-serial-eq0 : goal.returns-then-serial-eq0
returns-then-serial-eq0 c =
    c.nothing-then-serial-eq0.ensures ∙ zero-S c.args.t.now c.args.q c.args.unit c.requires.1 (omega (arith, c.if-t-q-lt5.false, c.requires.0)) (sym c.four_at-serial.ensures.0 ∙ c.if-serial-eq0.true)

pub returns-then-d-eq0 : goal.returns-then-d-eq0
returns-then-d-eq0 c =
    c.nothing-then-d-eq0.ensures ∙ wrong-S c.args.t.now c.args.q c.args.unit c.requires.1 c.byte_at-state.result c.state_digits-d.result (omega (arith, c.if-t-q-lt5.false, c.requires.0)) c.byte_at-state.ensures.0 c.state_digits-d.ensures.0 c.if-d-eq0.true

pub overflow_add-result-3 : goal.overflow_add-result-3
overflow_add-result-3 c = omega (arith, c.state_digits-d.ensures.1)

pub returns : goal.returns
returns c =
    is-S c.args.t.now c.args.q c.args.unit c.requires.1 _ c.digits-a.ensures.0 c.four_at-serial.result c.byte_at-state.result _ _ (omega (arith, c.if-t-q-lt5.false, c.requires.0)) c.four_at-serial.ensures.0 c.four_at-serial.ensures.1 (omega (arith, c.if-serial-eq0.false)) c.byte_at-state.ensures.0 c.digits-b.ensures.0 c.state_digits-d.ensures.0 c.if-d-eq0.false
