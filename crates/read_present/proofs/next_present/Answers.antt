-- A refusal of the interface has its number and nothing else; else the walk answers. Assumes nothing.
use mathlib.Core.Path.{sym, ◌∙◌}
use borrow.Author.Rules.{rules}
use Rattle.bench_views.specs.View.{view}
use Rattle.ledger_spec.proofs.Accepted.{clear_passed}
use Rattle.read_present.proofs.Saying.{next_no, next_yes}
use Rattle.read_present.proofs.next_present.Goals as goal

pub returns-then-number-ne0 : goal.returns-then-number-ne0
returns-then-number-ne0 c = next_no (view c.args.b.now) c.args.unit c.unit_number-number.result c.unit_number-number.ensures c.args.index.0 c.if-number-ne0.true

pub walk-requires : goal.walk-requires
walk-requires c =
    let o = clear_passed (view c.args.b.now) c.args.unit (sym c.unit_number-number.ensures ∙ c.if-number-ne0.false) in record { fit = c.requires; unit_bound = o.low; unit_value = o.free }

pub returns : goal.returns
returns c = c.walk.ensures ∙ next_yes (view c.args.b.now) c.args.unit c.unit_number-number.result c.unit_number-number.ensures c.args.index.0 c.if-number-ne0.false
