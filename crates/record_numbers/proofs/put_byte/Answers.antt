-- The low byte is the number's remainder. Assumes nothing.
use Prim.Native.Nat.{◌%◌}
use Rattle.text_decimals.proofs.Writes.{byte_wrote}
use Rattle.record_spec.specs.Numbers.{bytes}
use borrow.Author.Rules.{rules}
use Rattle.record_numbers.proofs.put_byte.Goals as goal

pub returns : goal.returns
unfolding bytes
returns c = byte_wrote c.args.out.now c.args.at (c.args.n % 256)
