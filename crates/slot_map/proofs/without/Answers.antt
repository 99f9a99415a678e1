-- `slot_map::without` meets its contract: a single bit taken out by `&`. Assumes nothing.
use borrow.Author.Rules.{rules}
use Rattle.slot_map.proofs.Bits.{and_put}
use Rattle.slot_map.proofs.without.Goals as goal

pub returns : goal.returns
returns c = and_put c.args.w c.args.s c.ranges.w.fits c.requires
