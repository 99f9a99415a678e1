-- No answer has more than 57 bytes. Assumes nothing.
use native.Mathlib.Omega.{arith}
use mir.Facts.{to_z-of_z}
use Rattle.text_answers.proofs.Answers.{answer-short}
use borrow.Author.Rules.{rules}
use mir.Syntax.{w64}
use Rattle.text_answers.proofs.write_answer.Goals as goal

pub put_answer-requires : goal.put_answer-requires
put_answer-requires c =
    let a = c.args in
    let f = c.ranges in
    let l = answer-short a.number a.serial a.speed a.sum (omega (arith, f.number.fits)) f.serial.fits f.speed f.sum in
    rw (to_z-of_z {w = w64} f.speed, to_z-of_z {w = w64} f.sum) (omega (arith, l, c.requires))

pub returns : goal.returns
returns c = rw (to_z-of_z {w = w64} c.ranges.speed, to_z-of_z {w = w64} c.ranges.sum) at c.put_answer.ensures
