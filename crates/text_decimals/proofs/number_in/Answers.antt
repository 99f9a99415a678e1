-- A field of one byte may be 0; one of more may not begin with it. Assumes nothing.
use mathlib.Core.Path.{sym, ◌∙◌, ap}
use Rattle.ledger_spec.specs.Decimals.{between}
use Rattle.text_decimals.proofs.Values.{between_none}
use Rattle.text_decimals.proofs.Fields.{natural_empty, natural_one, natural_zero, natural_more}
use Rattle.text_decimals.proofs.number_in.Goals as goal

pub returns-then-f-eq0 : goal.returns-then-f-eq0
returns-then-f-eq0 c =
    let a = c.args in
    sym (ap (between a.least a.most) (natural_empty a.f.now c.if-f-eq0.true) ∙ between_none a.least a.most)

pub returns-then-f-eq1 : goal.returns-then-f-eq1
returns-then-f-eq1 c =
    let a = c.args in
    c.value_in.ensures ∙ ap (between a.least a.most) (sym (natural_one a.f.now c.if-f-eq1.true))

pub returns-then-f-eq48 : goal.returns-then-f-eq48
returns-then-f-eq48 c =
    let a = c.args in
    sym (ap (between a.least a.most) (natural_zero a.f.now c.if-f-eq0.false c.if-f-eq1.false c.if-f-eq48.true) ∙ between_none a.least a.most)

pub returns : goal.returns
returns c =
    let a = c.args in
    c.value_in-2.ensures ∙ ap (between a.least a.most) (sym (natural_more a.f.now c.if-f-eq0.false c.if-f-eq1.false c.if-f-eq48.false))
