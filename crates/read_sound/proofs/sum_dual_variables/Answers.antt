-- A refusal has its number and no weight; else the interface's own. Assumes nothing.
use mathlib.Core.Path.{sym, ◌∙◌}
use borrow.Author.Rules.{rules}
use mir.Syntax.{w64}
use mir.Val.{to_z, of_z}
use mir.Facts.{to_z-of_z}
use Rattle.bench_views.specs.View.{view}
use Rattle.ledger_spec.proofs.Accepted.{clear_passed}
use Rattle.read_sound.proofs.Saying.{sum_no, sum_yes}
use Rattle.read_sound.proofs.sum_dual_variables.Goals as goal

pub returns-then-number-ne0 : goal.returns-then-number-ne0
returns-then-number-ne0 c = sum_no (view c.args.b.now) c.args.unit c.unit_number-number.result c.unit_number-number.ensures c.if-number-ne0.true

pub sum-requires : goal.sum-requires
sum-requires c =
    let o = clear_passed (view c.args.b.now) c.args.unit (sym c.unit_number-number.ensures ∙ c.if-number-ne0.false) in record { fit = c.requires; unit_bound = o.low; unit_value = o.free }

pub returns : goal.returns
returns c = sum_yes (view c.args.b.now) c.args.unit c.unit_number-number.result c.unit_number-number.ensures c.if-number-ne0.false (to_z w64 (of_z w64 c.sum.result)) (to_z-of_z {w = w64} (record { sfits = c.sum.type_inv }) ∙ c.sum.ensures)
