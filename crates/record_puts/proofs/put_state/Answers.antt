-- The head and the serial, and then the state. Assumes nothing.
use native.Mathlib.Omega.{arith}
use mathlib.Core.Path.{sym}
use mathlib.Core.List.{◌++◌}
use lib.ListN.{length-append}
use Rattle.text_decimals.proofs.Writes.{chain}
use Rattle.record_spec.specs.Numbers.{bytes}
use Rattle.record_spec.specs.Records.{state_byte}
use Rattle.record_spec.proofs.Numbers.{length_bytes}
use Rattle.ledger_spec.specs.Named.{state_named}
use Rattle.record_puts.specs.Puts.{head_of}
use Rattle.record_puts.proofs.Putting.{head_long}
use borrow.Author.Rules.{rules}
use Rattle.record_puts.proofs.put_state.Goals as goal

pub put_byte-requires : goal.put_byte-requires
put_byte-requires c =
    omega (arith, c.put_four_after-p.ensures.next, c.put_four_after-p.auto.out, head_long 83 c.args.unit, length-append (head_of 83 c.args.unit) (bytes 4 c.args.serial), length_bytes 4 c.args.serial, c.requires)

pub returns : goal.returns
returns c =
    chain c.args.out.now c.args.at (head_of 83 c.args.unit ++ bytes 4 c.args.serial) _ _ (bytes 1 (state_byte (state_named c.args.state))) _ _ c.put_four_after-p.ensures (rw (sym c.state_byte-n.ensures) c.put_byte.ensures)
