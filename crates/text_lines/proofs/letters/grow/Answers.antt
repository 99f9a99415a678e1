-- One signed number is left, and then the line ends. Assumes nothing.
use Rattle.std.specs.Prelude.{None, Some}
use mathlib.Core.Path.{◌≡◌, sym, ◌∙◌, ap}
use mir.Syntax.{w64}
use mir.Val.{SFits}
use mir.Facts.{to_z-of_z}
use Rattle.ledger_spec.specs.Operations.{G}
use Rattle.ledger_spec.specs.Grammar.{no_more}
use Rattle.text_lines.specs.Shown.{line_shown}
use Rattle.text_lines.proofs.Follow.{length_got, length_missed, ended, goes_on}
use borrow.Author.Rules.{rules}
use Rattle.text_lines.proofs.letters.grow.Goals as goal

pub returns-in_default : goal.returns-in_default
returns-in_default c =
    let a = c.args in
    let n = c.next_length in
    let q : n.result ≡ None = cc in
    sym (ap line_shown (length_missed a.s.now a.place n.result n.ensures (λ x. no_more (Some (G a.unit x))) q))

pub returns-then-e-s : goal.returns-then-e-s
returns-then-e-s c =
    let a = c.args in
    let n = c.next_length in
    let q : n.result ≡ Some (c.in-Some.l, c.in-Some.e) = cc in
    sym (ap line_shown (length_got a.s.now a.place n.result n.ensures (λ x. no_more (Some (G a.unit x))) _ _ q ∙ goes_on a.s.now _ _ c.if-e-s.true))

pub returns : goal.returns
returns c =
    let a = c.args in
    let n = c.next_length in
    let q : n.result ≡ Some (c.in-Some.l, c.in-Some.e) = cc in
    let ok : SFits w64 c.in-Some.l = search rules in
    rw (to_z-of_z {w = w64} ok) (sym (ap line_shown (length_got a.s.now a.place n.result n.ensures (λ x. no_more (Some (G a.unit x))) _ _ q ∙ ended a.s.now _ _ c.if-e-s.false)))
