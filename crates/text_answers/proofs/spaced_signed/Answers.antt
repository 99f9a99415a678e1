-- A space, and then the signed number. Assumes nothing.
use native.Mathlib.Omega.{arith}
use mathlib.Core.Path.{◌∙◌}
use mir.Facts.{to_z-of_z}
use lib.ListN.{length-set}
use Rattle.text_decimals.proofs.Writes.{after_byte}
use borrow.Author.Rules.{rules}
use mir.Syntax.{w64}
use Rattle.text_answers.proofs.spaced_signed.Goals as goal

pub put_signed-requires : goal.put_signed-requires
put_signed-requires c = rw (to_z-of_z {w = w64} c.ranges.z) (simp length-set (omega arith))

pub shape_of-out : goal.shape_of-out
shape_of-out c = c.put_signed.auto.out ∙ simp length-set

pub returns : goal.returns
returns c = after_byte c.args.out.now c.args.at 32 _ _ _ (rw (to_z-of_z {w = w64} c.ranges.z) at c.put_signed.ensures)
