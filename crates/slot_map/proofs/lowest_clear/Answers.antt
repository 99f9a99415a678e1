-- `slot_map::lowest_clear` meets its contract: the trailing zeros of the complement are set bits, and then comes a clear one. Assumes nothing.
use Prim.Native.Nat.{◌-◌, ◌^◌}
use native.Mathlib.Omega.{arith}
use lib.Count.{trailing_le}
use Rattle.slot_map.proofs.Firsts.{clear_at, clear_none}
use Rattle.slot_map.proofs.lowest_clear.Goals as goal

pub overflow_cast-t : goal.overflow_cast-t
overflow_cast-t c = omega (arith, trailing_le 64 ((2 ^ 64 - 1) - c.args.w))

pub returns-then-t-lt64 : goal.returns-then-t-lt64
returns-then-t-lt64 c = clear_at c.args.w c.ranges.w.fits c.if-t-lt64.true

pub returns-else-t-lt64 : goal.returns-else-t-lt64
returns-else-t-lt64 c = clear_none c.args.w c.ranges.w.fits c.if-t-lt64.false
