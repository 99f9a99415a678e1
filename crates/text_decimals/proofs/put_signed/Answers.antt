-- A number below 0 is a minus and the decimal of its size; others are their decimal. Assumes nothing.
use native.Mathlib.Omega.{arith}
use mathlib.Core.Path.{sym, ◌∙◌, ap}
use lib.ListN.{length, length-set}
use Rattle.text_decimals.proofs.Signs.{turned, plain}
use Rattle.text_decimals.proofs.Writes.{after_byte, same_text}
use Rattle.text_decimals.proofs.put_signed.Goals as goal

pub bounds-out-at : goal.bounds-out-at
bounds-out-at c = let t = turned c.args.z c.ranges.z c.if-z-lt0.true in omega (arith, ap length t.text, c.requires)

pub overflow_sub-z : goal.overflow_sub-z
overflow_sub-z c = (turned c.args.z c.ranges.z c.if-z-lt0.true).fits

pub overflow_cast-z : goal.overflow_cast-z
overflow_cast-z c = (turned c.args.z c.ranges.z c.if-z-lt0.true).whole

pub overflow_add-z : goal.overflow_add-z
overflow_add-z c = (turned c.args.z c.ranges.z c.if-z-lt0.true).more

pub put_number-requires : goal.put_number-requires
put_number-requires c = let t = turned c.args.z c.ranges.z c.if-z-lt0.true in simp length-set (omega (arith, ap length t.text, c.requires))

pub shape_of-out-then-z-lt0 : goal.shape_of-out-then-z-lt0
shape_of-out-then-z-lt0 c = c.put_number.auto.out ∙ simp length-set

pub returns-then-z-lt0 : goal.returns-then-z-lt0
returns-then-z-lt0 c =
    let t = turned c.args.z c.ranges.z c.if-z-lt0.true in
    same_text c.args.out.now c.args.at _ _ _ _ (sym t.text) (after_byte c.args.out.now c.args.at 45 _ _ _ c.put_number.ensures)

pub overflow_cast-z-2 : goal.overflow_cast-z-2
overflow_cast-z-2 c = (plain c.args.z c.ranges.z c.if-z-lt0.false).whole

pub put_number-requires-2 : goal.put_number-requires-2
put_number-requires-2 c = let t = plain c.args.z c.ranges.z c.if-z-lt0.false in omega (arith, ap length t.text, c.requires)

pub returns : goal.returns
returns c =
    let t = plain c.args.z c.ranges.z c.if-z-lt0.false in
    same_text c.args.out.now c.args.at _ _ _ _ (sym t.text) c.put_number-2.ensures
