-- The low half, and the high half after it. Assumes nothing.
use native.Mathlib.Omega.{arith}
use Rattle.text_decimals.proofs.Writes.{chain}
use Rattle.record_spec.specs.Numbers.{bytes}
use Rattle.record_spec.proofs.Numbers.{length_bytes}
use borrow.Author.Rules.{rules}
use Rattle.record_numbers.proofs.put_four.Goals as goal

pub put_two-requires : goal.put_two-requires
put_two-requires c =
    omega (arith, c.put_two-p.ensures.next, c.put_two-p.auto.out, length_bytes 2 c.args.n, c.requires)

pub returns : goal.returns
unfolding bytes
returns c =
    chain c.args.out.now c.args.at (bytes 2 c.args.n) _ c.put_two-p.result _ _ _ c.put_two-p.ensures c.put_two.ensures
