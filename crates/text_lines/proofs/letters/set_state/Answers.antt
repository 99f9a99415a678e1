-- A serial and a state are left, and then the line ends. Assumes nothing.
use Rattle.std.specs.Prelude.{None, Some}
use native.Mathlib.Omega.{arith}
use mathlib.Core.Path.{◌≡◌, sym, ◌∙◌, ap}
use Rattle.kinds.specs.declared.GrowState.{GrowState}
use Rattle.ledger_spec.specs.Operations.{S}
use Rattle.ledger_spec.specs.Grammar.{a_state, then, no_more}
use Rattle.text_lines.specs.declared.Line.TheVariants.{SetState}
use Rattle.text_lines.specs.Shown.{line_shown}
use Rattle.text_lines.proofs.Follow.{got, got_further, missed, state_got, state_missed, state_same, ended, goes_on}
use borrow.Author.Rules.{rules}
use Rattle.text_lines.proofs.letters.set_state.Goals as goal

pub returns-in_default : goal.returns-in_default
returns-in_default c =
    let a = c.args in
    let n = c.next_number in
    let q : n.result ≡ None = cc in
    sym (ap line_shown (missed a.s.now a.place 1 4294967295 n.result n.ensures (λ x. then a_state (λ y. no_more (Some (S a.unit x y)))) q))

pub returns-in_default-next_state : goal.returns-in_default-next_state
returns-in_default-next_state c =
    let a = c.args in
    let n = c.next_number in
    let o = c.next_state in
    let q : n.result ≡ Some (c.in-Some.n, c.in-Some.e) = cc in
    let w : o.result ≡ None = cc in
    sym (ap line_shown (got a.s.now a.place 1 4294967295 n.result n.ensures _ _ q (λ x. then a_state (λ y. no_more (Some (S a.unit x y)))) ∙ state_missed a.s.now _ o.result o.ensures (λ y. no_more (Some (S a.unit _ y))) w))

pub returns-then-z-s : goal.returns-then-z-s
returns-then-z-s c =
    let a = c.args in
    let n = c.next_number in
    let o = c.next_state in
    let q : n.result ≡ Some (c.in-Some.n, c.in-Some.e) = cc in
    let w : o.result ≡ Some (c.in-Some-next_state.g, c.in-Some-next_state.z) = cc in
    sym (ap line_shown (got a.s.now a.place 1 4294967295 n.result n.ensures _ _ q (λ x. then a_state (λ y. no_more (Some (S a.unit x y)))) ∙ state_got a.s.now _ o.result o.ensures (λ y. no_more (Some (S a.unit _ y))) _ _ w ∙ goes_on a.s.now _ _ c.if-z-s.true))

pub overflow_cast-result : goal.overflow_cast-result
overflow_cast-result c =
    let a = c.args in
    let n = c.next_number in
    let q : n.result ≡ Some (c.in-Some.n, c.in-Some.e) = cc in
    omega (arith, (got_further a.s.now a.place 1 4294967295 n.result n.ensures _ _ q).2)

pub returns : goal.returns
returns c =
    let a = c.args in
    let n = c.next_number in
    let o = c.next_state in
    let q : n.result ≡ Some (c.in-Some.n, c.in-Some.e) = cc in
    let w : o.result ≡ Some (c.in-Some-next_state.g, c.in-Some-next_state.z) = cc in
    ap (λ (x : GrowState). SetState a.unit (record { 0 = c.in-Some.n }) x) (sym (state_same c.in-Some-next_state.g))
    ∙ sym (ap line_shown (got a.s.now a.place 1 4294967295 n.result n.ensures _ _ q (λ x. then a_state (λ y. no_more (Some (S a.unit x y)))) ∙ state_got a.s.now _ o.result o.ensures (λ y. no_more (Some (S a.unit _ y))) _ _ w ∙ ended a.s.now _ _ c.if-z-s.false))
