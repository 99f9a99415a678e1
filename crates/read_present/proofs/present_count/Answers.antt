-- A refusal has its number and no count; else that of the tree. Assumes nothing.
use mathlib.Core.Path.{sym, ◌∙◌}
use Rattle.bench_views.specs.View.{view}
use Rattle.ledger_spec.proofs.Accepted.{clear_passed}
use Rattle.read_present.proofs.Saying.{present_no, present_yes}
use Rattle.read_present.proofs.present_count.Goals as goal

pub returns-then-number-ne0 : goal.returns-then-number-ne0
returns-then-number-ne0 c = present_no (view c.args.b.now) c.args.unit c.unit_number-number.result c.unit_number-number.ensures c.if-number-ne0.true

pub total-count-requires : goal.total-count-requires
total-count-requires c =
    let o = clear_passed (view c.args.b.now) c.args.unit (sym c.unit_number-number.ensures ∙ c.if-number-ne0.false) in record { fit = c.requires; unit_bound = o.low; unit_value = o.free }

pub returns : goal.returns
returns c = present_yes (view c.args.b.now) c.args.unit c.unit_number-number.result c.unit_number-number.ensures c.if-number-ne0.false c.total-count.result c.total-count.ensures
