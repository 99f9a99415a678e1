-- The tests decide; the work is remove blossom's. Assumes nothing.
use borrow.Author.Rules.{rules}
use mathlib.Core.Path.{refl}
use Rattle.ledger_spec.specs.Calls.{Expand}
use Rattle.ledger_spec.specs.Tests.{first}
use Rattle.ledger_laws.proofs.Answered.{tests_of, deed_of, node_of}
use Rattle.bench_views.specs.View.{view}
use Rattle.call_sound.proofs.Settling.{stops, fits, goes}
use Rattle.ledger_spec.specs.Refuse.{expand_tests}
use Rattle.ledger_spec.specs.Named.{handle_named}
use Rattle.call_sound.proofs.expand_blossom.Goals as goal

pub returns-then-number-ne0 : goal.returns-then-number-ne0
unfolding tests_of
returns-then-number-ne0 c = stops c.args.b.now c.requires (Expand c.args.unit (handle_named c.args.node)) c.expand_number-number.result c.expand_number-number.ensures _ c.if-number-ne0.true refl c.refused.result c.refused.ensures

pub remove_blossom-requires : goal.remove_blossom-requires
remove_blossom-requires c = fits c.args.b.now c.requires (first (expand_tests (view c.args.b.now) c.args.unit (handle_named c.args.node))) c.expand_number-number.result c.expand_number-number.ensures c.if-number-ne0.false

pub returns : goal.returns
unfolding tests_of deed_of node_of
returns c = goes c.args.b.now c.requires (Expand c.args.unit (handle_named c.args.node)) c.expand_number-number.result c.expand_number-number.ensures _ c.if-number-ne0.false c.remove_blossom.ensures _ refl
