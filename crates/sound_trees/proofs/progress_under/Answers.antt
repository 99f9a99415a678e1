-- An interface climbs to the top asked for or to another. Assumes nothing.
use Rattle.sound_trees.proofs.Rows.{not_under, is_under_lem}
use Rattle.sound_trees.proofs.progress_under.Goals as goal

pub returns-then-top_of-top : goal.returns-then-top_of-top
returns-then-top_of-top c = not_under c.args.b.now c.requires.steady c.args.top c.args.u c.requires.u_bound c.top_of.result c.top_of.ensures.0 c.if-top_of-top.true

pub returns : goal.returns
returns c = is_under_lem c.args.b.now c.requires.steady c.args.top c.args.u c.requires.u_bound c.top_of.result c.top_of.ensures.0 c.if-top_of-top.false c.load_interface-f.result c.load_interface-f.ensures
