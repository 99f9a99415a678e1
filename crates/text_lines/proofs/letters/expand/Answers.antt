-- One serial is left, and then the line ends. Assumes nothing.
use Rattle.std.specs.Prelude.{None, Some}
use native.Mathlib.Omega.{arith}
use mathlib.Core.Path.{◌≡◌, sym, ◌∙◌, ap}
use Rattle.ledger_spec.specs.Operations.{E}
use Rattle.ledger_spec.specs.Grammar.{no_more}
use Rattle.text_lines.specs.Shown.{line_shown}
use Rattle.text_lines.proofs.Follow.{got, got_further, missed, ended, goes_on}
use borrow.Author.Rules.{rules}
use Rattle.text_lines.proofs.letters.expand.Goals as goal

pub returns-in_default : goal.returns-in_default
returns-in_default c =
    let a = c.args in
    let n = c.next_number in
    let q : n.result ≡ None = cc in
    sym (ap line_shown (missed a.s.now a.place 1 4294967295 n.result n.ensures (λ x. no_more (Some (E a.unit x))) q))

pub returns-then-e-s : goal.returns-then-e-s
returns-then-e-s c =
    let a = c.args in
    let n = c.next_number in
    let q : n.result ≡ Some (c.in-Some.n, c.in-Some.e) = cc in
    sym (ap line_shown (got a.s.now a.place 1 4294967295 n.result n.ensures _ _ q (λ x. no_more (Some (E a.unit x))) ∙ goes_on a.s.now _ _ c.if-e-s.true))

pub overflow_cast-result : goal.overflow_cast-result
overflow_cast-result c =
    let a = c.args in
    let n = c.next_number in
    let q : n.result ≡ Some (c.in-Some.n, c.in-Some.e) = cc in
    omega (arith, (got_further a.s.now a.place 1 4294967295 n.result n.ensures _ _ q).2)

pub returns : goal.returns
returns c =
    let a = c.args in
    let n = c.next_number in
    let q : n.result ≡ Some (c.in-Some.n, c.in-Some.e) = cc in
    sym (ap line_shown (got a.s.now a.place 1 4294967295 n.result n.ensures _ _ q (λ x. no_more (Some (E a.unit x))) ∙ ended a.s.now _ _ c.if-e-s.false))
