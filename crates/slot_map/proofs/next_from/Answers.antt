-- `slot_map::next_from` meets its contract: the trailing zeros of the word from s on are clear bits, and then comes a set one. Assumes nothing.
use Prim.Native.Nat.{◌/◌, ◌^◌}
use native.Mathlib.Omega.{arith}
use borrow.Author.Rules.{rules}
use lib.Count.{trailing_le}
use Rattle.slot_map.proofs.Firsts.{next_at, next_none, next_past}
use Rattle.slot_map.proofs.next_from.Goals as goal

pub returns-then-s-ge64 : goal.returns-then-s-ge64
returns-then-s-ge64 c = next_past c.args.w c.args.s c.if-s-ge64.true

pub overflow_cast-t-2 : goal.overflow_cast-t-2
overflow_cast-t-2 c = omega (arith, trailing_le 64 (c.args.w / 2 ^ c.args.s))

pub returns-then-t-s : goal.returns-then-t-s
returns-then-t-s c = next_at c.args.w c.args.s c.if-t-s.true

pub returns-else-t-s : goal.returns-else-t-s
returns-else-t-s c = next_none c.args.w c.args.s c.if-t-s.false
