-- The tests decide; the work is join's. Assumes nothing.
use borrow.Author.Rules.{rules}
use mathlib.Core.Path.{refl}
use Rattle.ledger_spec.specs.Calls.{Fuse}
use Rattle.ledger_spec.specs.Tests.{first}
use Rattle.ledger_laws.proofs.Answered.{tests_of, deed_of, node_of}
use Rattle.bench_views.specs.View.{view}
use Rattle.call_sound.proofs.Settling.{stops, fits, goes_bare}
use Rattle.ledger_spec.specs.Refuse.{fuse_tests}
use Rattle.call_sound.proofs.fuse.Goals as goal

pub returns-then-number-ne0 : goal.returns-then-number-ne0
unfolding tests_of
returns-then-number-ne0 c = stops c.args.b.now c.requires (Fuse c.args.parent c.args.left c.args.right) c.fuse_number-number.result c.fuse_number-number.ensures _ c.if-number-ne0.true refl c.refused.result c.refused.ensures

pub join-requires : goal.join-requires
join-requires c = fits c.args.b.now c.requires (first (fuse_tests (view c.args.b.now) c.args.parent c.args.left c.args.right)) c.fuse_number-number.result c.fuse_number-number.ensures c.if-number-ne0.false

pub returns : goal.returns
unfolding tests_of deed_of node_of
returns c =
    goes_bare c.args.b.now c.requires (Fuse c.args.parent c.args.left c.args.right) c.fuse_number-number.result c.fuse_number-number.ensures _ c.if-number-ne0.false c.join.ensures refl c.refused-2.result c.refused-2.ensures
