-- A space and a minus, and then the decimal. Assumes nothing.
use native.Mathlib.Omega.{arith}
use mathlib.Core.Path.{◌∙◌}
use lib.ListN.{length-set}
use borrow.Author.Rules.{rules}
use Rattle.record_lines.proofs.Pieces.{two_bytes}
use Rattle.record_lines.proofs.put_below.Goals as goal

pub bounds-out-at-2 : goal.bounds-out-at-2
bounds-out-at-2 c = simp length-set (omega arith)

pub put_number-requires : goal.put_number-requires
put_number-requires c = simp length-set (omega arith)

pub shape_of-out : goal.shape_of-out
shape_of-out c = c.put_number.auto.out ∙ simp length-set

pub returns : goal.returns
returns c = two_bytes c.args.out.now c.args.at 32 45 _ _ _ c.put_number.ensures
