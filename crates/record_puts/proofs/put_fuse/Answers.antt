-- The head, and then two interfaces. Assumes nothing.
use native.Mathlib.Omega.{arith}
use mathlib.Core.List.{◌++◌}
use Rattle.text_decimals.proofs.Writes.{chain}
use Rattle.record_spec.specs.Numbers.{bytes}
use Rattle.record_spec.proofs.Numbers.{length_bytes}
use Rattle.record_puts.specs.Puts.{head_of}
use Rattle.record_puts.proofs.Putting.{head_long}
use borrow.Author.Rules.{rules}
use Rattle.record_puts.proofs.put_fuse.Goals as goal

pub put_byte-q-requires : goal.put_byte-q-requires
put_byte-q-requires c =
    omega (arith, c.put_head-p.ensures.next, c.put_head-p.auto.out, head_long 70 c.args.parent, c.requires)

pub put_byte-requires : goal.put_byte-requires
put_byte-requires c =
    omega (arith, c.put_head-p.ensures.next, c.put_head-p.auto.out, head_long 70 c.args.parent, c.put_byte-q.ensures.next, c.put_byte-q.auto.out, length_bytes 1 c.args.left, c.requires)

pub returns : goal.returns
returns c =
    chain c.args.out.now c.args.at (head_of 70 c.args.parent ++ bytes 1 c.args.left) _ _ (bytes 1 c.args.right) _ _ (chain c.args.out.now c.args.at (head_of 70 c.args.parent) _ _ (bytes 1 c.args.left) _ _ c.put_head-p.ensures c.put_byte-q.ensures) c.put_byte.ensures
