-- The parts of the test, of the interface that is loaded. Assumes nothing.
use Rattle.sound_trees.proofs.Rows.{good_loaded, interface_row}
use Rattle.sound_trees.proofs.is_interface.Goals as goal

pub is_half-requires : goal.is_half-requires
is_half-requires c = record { good_up = good_loaded c.args.b.now c.args.u c.load_interface-f.result c.load_interface-f.ensures; u_bound = c.requires }

pub returns : goal.returns
returns c =
    interface_row c.args.b.now c.args.u c.load_interface-f.result c.is_spare.result c.is_link.result c.is_flags.result c.is_half.result c.are_halves.result c.load_interface-f.ensures c.is_spare.ensures c.is_link.ensures c.is_flags.ensures c.is_half.ensures c.are_halves.ensures
