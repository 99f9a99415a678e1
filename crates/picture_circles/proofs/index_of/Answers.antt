-- It stands at the handle's position. Assumes nothing.
use Rattle.ledger_spec.specs.Named.{handle_named}
use Rattle.picture_circles.proofs.index_of.Goals as goal

pub returns : goal.returns
returns c = c.requires.indices.at (handle_named c.args.h) c.requires.unit_bound c.requires.slot_bound
