-- The head, and then the length's number. Assumes nothing.
use native.Mathlib.Omega.{arith}
use mathlib.Core.Path.{sym}
use lib.ListN.{length}
use Rattle.text_decimals.proofs.Writes.{chain}
use Rattle.record_spec.specs.Numbers.{bytes, complement}
use Rattle.record_puts.specs.Puts.{head_of}
use Rattle.record_puts.proofs.Putting.{head_long}
use mir.Facts.{to_z-of_z}
use borrow.Author.Rules.{rules}
use mir.Syntax.{w64}
use Rattle.record_puts.proofs.put_length.Goals as goal

pub put_eight-requires : goal.put_eight-requires
put_eight-requires c =
    omega (arith, c.put_head-p.ensures.next, c.put_head-p.auto.out, head_long 71 c.args.unit, c.requires)

pub returns : goal.returns
returns c =
    let n = rw (to_z-of_z {w = w64} c.ranges.length) at c.complement_of-n.ensures in
    chain c.args.out.now c.args.at (head_of 71 c.args.unit) _ _ (bytes 8 (complement c.args.length)) _ _ c.put_head-p.ensures (rw (sym n) c.put_eight.ensures)
