-- The tests decide; the work is add defect's. Assumes nothing.
use borrow.Author.Rules.{rules}
use mathlib.Core.Path.{refl}
use Rattle.ledger_spec.specs.Calls.{Defect}
use Rattle.ledger_spec.specs.Tests.{first}
use Rattle.ledger_laws.proofs.Answered.{tests_of, deed_of, node_of}
use Rattle.bench_views.specs.View.{view}
use Rattle.call_sound.proofs.Settling.{stops, fits, goes}
use Rattle.ledger_spec.specs.Refuse.{defect_tests}
use Rattle.call_sound.proofs.create_defect_node.Goals as goal

pub returns-then-number-ne0 : goal.returns-then-number-ne0
unfolding tests_of
returns-then-number-ne0 c = stops c.args.b.now c.requires (Defect c.args.unit c.args.vertex.0) c.defect_number-number.result c.defect_number-number.ensures _ c.if-number-ne0.true refl c.refused.result c.refused.ensures

pub add_defect-node-requires : goal.add_defect-node-requires
add_defect-node-requires c = fits c.args.b.now c.requires (first (defect_tests (view c.args.b.now) c.args.unit)) c.defect_number-number.result c.defect_number-number.ensures c.if-number-ne0.false

pub returns : goal.returns
unfolding tests_of deed_of node_of
returns c = goes c.args.b.now c.requires (Defect c.args.unit c.args.vertex.0) c.defect_number-number.result c.defect_number-number.ensures _ c.if-number-ne0.false c.add_defect-node.ensures.0 c.add_defect-node.result c.add_defect-node.ensures.1
