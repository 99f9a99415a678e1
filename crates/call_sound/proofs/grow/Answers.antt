-- The tests decide; the work is grow's, by a length that is not below 0. Assumes nothing.
use borrow.Author.Rules.{rules}
use mathlib.Core.Path.{refl}
use Rattle.ledger_spec.specs.Calls.{Grow}
use Rattle.ledger_laws.proofs.Answered.{tests_of, deed_of, node_of}
use Rattle.bench_views.proofs.Fits.{fit_of}
use Rattle.call_sound.proofs.Settling.{stops, goes_bare, grow_said, grows_on, grows_fit, grows_done}
use Rattle.call_sound.proofs.grow.Goals as goal

pub grow_number-number-requires : goal.grow_number-number-requires
grow_number-number-requires c = fit_of _ c.requires

pub returns-then-number-ne0 : goal.returns-then-number-ne0
unfolding tests_of
returns-then-number-ne0 c = stops c.args.b.now c.requires (Grow c.args.unit c.args.length) c.grow_number-number.result (grow_said c.args.b.now c.args.unit c.ranges.length c.grow_number-number.ensures) _ c.if-number-ne0.true refl c.refused.result c.refused.ensures

pub overflow_cast-length : goal.overflow_cast-length
overflow_cast-length c = (grows_on c.args.b.now c.requires c.args.unit c.args.length c.ranges.length c.grow_number-number.result (grow_said c.args.b.now c.args.unit c.ranges.length c.grow_number-number.ensures) c.if-number-ne0.false).whole

pub grow_by-requires : goal.grow_by-requires
grow_by-requires c = grows_fit c.args.b.now c.requires c.args.unit c.args.length c.ranges.length c.grow_number-number.result (grow_said c.args.b.now c.args.unit c.ranges.length c.grow_number-number.ensures) c.if-number-ne0.false

pub returns : goal.returns
unfolding tests_of deed_of node_of
returns c =
    goes_bare c.args.b.now c.requires (Grow c.args.unit c.args.length) c.grow_number-number.result (grow_said c.args.b.now c.args.unit c.ranges.length c.grow_number-number.ensures) _ c.if-number-ne0.false (grows_done c.args.b.now c.requires c.args.unit c.args.length c.ranges.length c.grow_number-number.result (grow_said c.args.b.now c.args.unit c.ranges.length c.grow_number-number.ensures) c.if-number-ne0.false _ c.grow_by.ensures) refl c.refused-2.result c.refused-2.ensures
