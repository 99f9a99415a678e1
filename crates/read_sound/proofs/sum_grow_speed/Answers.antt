-- A refusal has its number and no weight; else the interface's own. Assumes nothing.
use mathlib.Core.Path.{sym, ◌∙◌}
use borrow.Author.Rules.{rules}
use mir.Syntax.{w64}
use mir.Val.{to_z, of_z}
use mir.Facts.{to_z-of_z}
use Rattle.bench_views.specs.View.{view}
use Rattle.ledger_spec.proofs.Accepted.{clear_passed}
use Rattle.read_sound.proofs.Saying.{speed_no, speed_yes}
use Rattle.read_sound.proofs.sum_grow_speed.Goals as goal

pub returns-then-number-ne0 : goal.returns-then-number-ne0
returns-then-number-ne0 c = speed_no (view c.args.b.now) c.args.unit c.unit_number-number.result c.unit_number-number.ensures c.if-number-ne0.true

pub speed-requires : goal.speed-requires
speed-requires c =
    let o = clear_passed (view c.args.b.now) c.args.unit (sym c.unit_number-number.ensures ∙ c.if-number-ne0.false) in record { fit = c.requires; unit_bound = o.low; unit_value = o.free }

pub returns : goal.returns
returns c = speed_yes (view c.args.b.now) c.args.unit c.unit_number-number.result c.unit_number-number.ensures c.if-number-ne0.false (to_z w64 (of_z w64 c.speed.result)) (to_z-of_z {w = w64} (record { sfits = c.speed.type_inv }) ∙ c.speed.ensures)
