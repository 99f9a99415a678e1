-- Two units are left, and then the line ends. Assumes nothing.
use Rattle.std.specs.Prelude.{None, Some}
use native.Mathlib.Omega.{arith}
use mathlib.Core.Path.{◌≡◌, sym, ◌∙◌, ap}
use Rattle.ledger_spec.specs.Operations.{F}
use Rattle.ledger_spec.specs.Grammar.{a_unit, then, no_more}
use Rattle.text_lines.specs.Shown.{line_shown}
use Rattle.text_lines.proofs.Follow.{got, got_further, missed, ended, goes_on}
use borrow.Author.Rules.{rules}
use Rattle.text_lines.proofs.letters.fuse.Goals as goal

pub returns-in_default : goal.returns-in_default
returns-in_default c =
    let a = c.args in
    let n = c.next_number in
    let q : n.result ≡ None = cc in
    sym (ap line_shown (missed a.s.now a.place 0 255 n.result n.ensures (λ x. then a_unit (λ y. no_more (Some (F a.parent x y)))) q))

pub returns-in_default-next_number : goal.returns-in_default-next_number
returns-in_default-next_number c =
    let a = c.args in
    let n = c.next_number in
    let o = c.next_number-2 in
    let q : n.result ≡ Some (c.in-Some.l, c.in-Some.e) = cc in
    let w : o.result ≡ None = cc in
    sym (ap line_shown (got a.s.now a.place 0 255 n.result n.ensures _ _ q (λ x. then a_unit (λ y. no_more (Some (F a.parent x y)))) ∙ missed a.s.now _ 0 255 o.result o.ensures (λ y. no_more (Some (F a.parent _ y))) w))

pub returns-then-z-s : goal.returns-then-z-s
returns-then-z-s c =
    let a = c.args in
    let n = c.next_number in
    let o = c.next_number-2 in
    let q : n.result ≡ Some (c.in-Some.l, c.in-Some.e) = cc in
    let w : o.result ≡ Some (c.in-Some-next_number.m, c.in-Some-next_number.z) = cc in
    sym (ap line_shown (got a.s.now a.place 0 255 n.result n.ensures _ _ q (λ x. then a_unit (λ y. no_more (Some (F a.parent x y)))) ∙ got a.s.now _ 0 255 o.result o.ensures _ _ w (λ y. no_more (Some (F a.parent _ y))) ∙ goes_on a.s.now _ _ c.if-z-s.true))

pub overflow_cast-result : goal.overflow_cast-result
overflow_cast-result c =
    let a = c.args in
    let n = c.next_number in
    let q : n.result ≡ Some (c.in-Some.l, c.in-Some.e) = cc in
    omega (arith, (got_further a.s.now a.place 0 255 n.result n.ensures _ _ q).2)

pub overflow_cast-result-2 : goal.overflow_cast-result-2
overflow_cast-result-2 c =
    let a = c.args in
    let o = c.next_number-2 in
    let w : o.result ≡ Some (c.in-Some-next_number.m, c.in-Some-next_number.z) = cc in
    omega (arith, (got_further a.s.now _ 0 255 o.result o.ensures _ _ w).2)

pub returns : goal.returns
returns c =
    let a = c.args in
    let n = c.next_number in
    let o = c.next_number-2 in
    let q : n.result ≡ Some (c.in-Some.l, c.in-Some.e) = cc in
    let w : o.result ≡ Some (c.in-Some-next_number.m, c.in-Some-next_number.z) = cc in
    sym (ap line_shown (got a.s.now a.place 0 255 n.result n.ensures _ _ q (λ x. then a_unit (λ y. no_more (Some (F a.parent x y)))) ∙ got a.s.now _ 0 255 o.result o.ensures _ _ w (λ y. no_more (Some (F a.parent _ y))) ∙ ended a.s.now _ _ c.if-z-s.false))
