-- What climbing and adding up found. Assumes nothing.
use Rattle.sound_nodes.proofs.Slots.{grounded}
use Rattle.sound_nodes.proofs.ground_of.Goals as goal

pub returns : goal.returns
returns c = grounded c.args.b.now c.args.u c.climb-c.result.top c.climb-c.result.total c.width-width.result c.climb-c.ensures c.width-width.ensures
