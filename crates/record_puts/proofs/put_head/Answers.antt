-- The letter, and then the unit. Assumes nothing.
use native.Mathlib.Omega.{arith}
use Rattle.text_decimals.proofs.Writes.{chain}
use Rattle.record_spec.specs.Numbers.{bytes}
use Rattle.record_spec.proofs.Numbers.{length_bytes}
use borrow.Author.Rules.{rules}
use Rattle.record_puts.proofs.put_head.Goals as goal

pub put_byte-requires : goal.put_byte-requires
put_byte-requires c =
    omega (arith, c.put_byte-p.ensures.next, c.put_byte-p.auto.out, length_bytes 1 c.args.letter, c.requires)

pub returns : goal.returns
returns c =
    chain c.args.out.now c.args.at (bytes 1 c.args.letter) _ _ (bytes 1 c.args.unit) _ _ c.put_byte-p.ensures c.put_byte.ensures
