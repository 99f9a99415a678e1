-- The serial, thrice. Assumes nothing.
use native.Mathlib.Omega.{arith}
use mathlib.Core.List.{◌++◌}
use Rattle.text_decimals.proofs.Writes.{chain}
use Rattle.record_spec.specs.Numbers.{bytes}
use Rattle.record_spec.proofs.Numbers.{length_bytes}
use borrow.Author.Rules.{rules}
use Rattle.record_puts.proofs.put_member.Goals as goal

pub put_four-q-requires : goal.put_four-q-requires
put_four-q-requires c =
    omega (arith, c.put_four-p.ensures.next, c.put_four-p.auto.out, length_bytes 4 c.args.n, c.requires)

pub put_four-requires : goal.put_four-requires
put_four-requires c =
    omega (arith, c.put_four-p.ensures.next, c.put_four-p.auto.out, c.put_four-q.ensures.next, c.put_four-q.auto.out, length_bytes 4 c.args.n, c.requires)

pub returns : goal.returns
returns c =
    chain c.args.out.now c.args.at (bytes 4 c.args.n ++ bytes 4 c.args.n) _ _ (bytes 4 c.args.n) _ _ (chain c.args.out.now c.args.at (bytes 4 c.args.n) _ _ (bytes 4 c.args.n) _ _ c.put_four-p.ensures c.put_four-q.ensures) c.put_four.ensures
