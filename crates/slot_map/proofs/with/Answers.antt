-- `slot_map::with` meets its contract: a single bit put in by `|`. Assumes nothing.
use borrow.Author.Rules.{rules}
use Rattle.slot_map.proofs.Bits.{or_put}
use Rattle.slot_map.proofs.with.Goals as goal

pub returns : goal.returns
returns c = or_put c.args.w c.args.s c.ranges.w.fits c.requires
