-- By the number and by the interface's own tests. Assumes nothing.
use mathlib.Core.Path.{sym, ◌∙◌}
use borrow.Author.Rules.{rules}
use mir.Syntax.{w64}
use mir.Val.{to_z, of_z}
use mir.Facts.{to_z-of_z}
use Rattle.bench_views.specs.View.{view}
use Rattle.bench_views.proofs.Fits.{fit_of}
use Rattle.ledger_spec.proofs.Accepted.{clear_passed}
use Rattle.text_numbers.proofs.Showing.{shown_outside, shown_closed, shown_open}
use Rattle.text_numbers.proofs.show.Goals as goal

pub returns-then-number-eq3 : goal.returns-then-number-eq3
returns-then-number-eq3 c =
    let a = c.args in
    c.silent.ensures ∙ shown_outside a.number a.serial (view a.b.now) a.unit c.if-number-eq3.true

pub returns-then-closed-ne0 : goal.returns-then-closed-ne0
returns-then-closed-ne0 c =
    let a = c.args in
    let n = c.unit_number-closed in
    c.silent-then-closed-ne0.ensures ∙ shown_closed a.number a.serial (view a.b.now) a.unit (λ z. c.if-closed-ne0.true (n.ensures ∙ z))

pub speed-speed-requires : goal.speed-speed-requires
speed-speed-requires c =
    let o = clear_passed (view c.args.b.now) c.args.unit (sym c.unit_number-closed.ensures ∙ c.if-closed-ne0.false) in record { fit = fit_of c.args.b.now c.requires; unit_bound = o.low; unit_value = o.free }

pub sum-sum-requires : goal.sum-sum-requires
sum-sum-requires c =
    let o = clear_passed (view c.args.b.now) c.args.unit (sym c.unit_number-closed.ensures ∙ c.if-closed-ne0.false) in record { fit = fit_of c.args.b.now c.requires; unit_bound = o.low; unit_value = o.free }

pub returns : goal.returns
returns c =
    let a = c.args in
    shown_open a.number a.serial (view a.b.now) a.unit c.if-number-eq3.false (sym c.unit_number-closed.ensures ∙ c.if-closed-ne0.false)
    (to_z w64 (of_z w64 c.speed-speed.result)) (to_z w64 (of_z w64 c.sum-sum.result))
    (to_z-of_z {w = w64} (record { sfits = c.speed-speed.type_inv }) ∙ c.speed-speed.ensures) (to_z-of_z {w = w64} (record { sfits = c.sum-sum.type_inv }) ∙ c.sum-sum.ensures)
