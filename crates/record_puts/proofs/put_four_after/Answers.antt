-- The head, and then the number. Assumes nothing.
use native.Mathlib.Omega.{arith}
use Rattle.text_decimals.proofs.Writes.{chain}
use Rattle.record_spec.specs.Numbers.{bytes}
use Rattle.record_puts.specs.Puts.{head_of}
use Rattle.record_puts.proofs.Putting.{head_long}
use borrow.Author.Rules.{rules}
use Rattle.record_puts.proofs.put_four_after.Goals as goal

pub put_four-requires : goal.put_four-requires
put_four-requires c =
    omega (arith, c.put_head-p.ensures.next, c.put_head-p.auto.out, head_long c.args.letter c.args.unit, c.requires)

pub returns : goal.returns
returns c =
    chain c.args.out.now c.args.at (head_of c.args.letter c.args.unit) _ _ (bytes 4 c.args.n) _ _ c.put_head-p.ensures c.put_four.ensures
