-- `slot_map::count` meets its contract: the machine's count of ones is the count of the bits. Assumes nothing.
use native.Mathlib.Omega.{arith}
use lib.Count.{ones-le}
use Rattle.slot_map.proofs.Counts.{ones_bits}
use Rattle.slot_map.proofs.count.Goals as goal

pub overflow_cast-result : goal.overflow_cast-result
overflow_cast-result c = omega (arith, ones-le 64 c.args.w c.ranges.w.fits)

pub returns : goal.returns
returns c = ones_bits c.args.w 64 c.ranges.w.fits
