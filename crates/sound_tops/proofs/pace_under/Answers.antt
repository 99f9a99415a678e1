-- An interface climbs to the top asked for or to another. Assumes nothing.
use Rattle.sound_tops.proofs.Pacing.{pace_else, pace_here, used_few}
use Rattle.sound_tops.proofs.pace_under.Goals as goal

pub returns-then-top_of-top : goal.returns-then-top_of-top
returns-then-top_of-top c = pace_else c.args.b.now c.args.top c.args.u c.top_of.result c.top_of.ensures.0 c.if-top_of-top.true

pub rates-requires : goal.rates-requires
rates-requires c = record { u_bound = c.requires.u_bound; used_bound = used_few c.args.b.now c.args.u c.load_interface-f.result c.requires.steady c.requires.u_bound c.load_interface-f.ensures }

pub overflow_sub-result : goal.overflow_sub-result
overflow_sub-result c =
    used_few c.args.b.now c.args.u c.load_interface-f.result c.requires.steady c.requires.u_bound c.load_interface-f.ensures

pub returns : goal.returns
returns c =
    pace_here c.args.b.now c.args.top c.args.u c.top_of.result c.top_of.ensures.0 c.if-top_of-top.false c.load_interface-f.result c.load_interface-f.ensures c.rates.result c.rates.ensures
