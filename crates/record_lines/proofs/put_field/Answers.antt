-- A space, and then the decimal. Assumes nothing.
use native.Mathlib.Omega.{arith}
use mathlib.Core.Path.{◌∙◌}
use lib.ListN.{length-set}
use Rattle.text_decimals.proofs.Writes.{after_byte}
use borrow.Author.Rules.{rules}
use Rattle.record_lines.proofs.put_field.Goals as goal

pub put_number-requires : goal.put_number-requires
put_number-requires c = simp length-set (omega arith)

pub shape_of-out : goal.shape_of-out
shape_of-out c = c.put_number.auto.out ∙ simp length-set

pub returns : goal.returns
returns c = after_byte c.args.out.now c.args.at 32 _ _ _ c.put_number.ensures
