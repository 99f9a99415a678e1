-- Four stores one after the other. Assumes nothing.
use Rattle.link_told.proofs.Writing.{four_set}
use Rattle.link_told.proofs.put_added.Goals as goal

pub returns : goal.returns
returns c = four_set c.args.out.now c.args.at 5 0 6 c.args.node
