-- Each turn is one step of the definition. Assumes nothing.
use Rattle.bench_words.specs.Store.{node_at}
use Rattle.sound_seats.proofs.Seating.{going_starts, going_on, going_ends}
use Rattle.sound_seats.proofs.walk.Goals as goal

pub loop-init : goal.loop-init
loop-init c = going_starts (node_at c.args.b.now) c.args.first c.args.steps

pub loop-preserved : goal.loop-preserved
loop-preserved c = going_on (node_at c.args.b.now) c.args.first c.args.steps c.loop.p c.loop.counter c.next_of-p.result c.loop.invariant c.loop-test.true c.next_of-p.ensures

pub returns : goal.returns
returns c = going_ends (node_at c.args.b.now) c.args.first c.args.steps c.loop.p c.loop.counter c.loop.invariant c.loop-test.false
