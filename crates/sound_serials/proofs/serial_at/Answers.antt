-- The serial of the node that is loaded. Assumes nothing.
use Rattle.sound_serials.proofs.Differing.{serial_of}
use Rattle.sound_serials.proofs.serial_at.Goals as goal

pub returns : goal.returns
returns c = serial_of c.args.b.now c.args.k c.load_node-n.result c.load_node-n.ensures
