-- What is left to read says what all of it says (`Going`), and no sum passes the range's end. Assumes nothing.
use native.Mathlib.Omega.{arith}
use mathlib.Core.Path.{refl}
use Rattle.text_decimals.proofs.Values.{start, turn, low_byte, high_byte, passing, too_little, enough}
use Rattle.text_decimals.proofs.value_in.Goals as goal
use Rattle.text_decimals.proofs.value_in.Goals.{then-c-lt48-via-then-c-lt48, then-c-lt48-via-else-c-lt48+then-c-gt57}

pub loop-c-init : goal.loop-c-init
loop-c-init c = start c.args.f.now c.args.most

pub returns-then-c-lt48 : goal.returns-then-c-lt48
returns-then-c-lt48 c =
    let l = c.loop-c in
    let a = c.args in
    elim c.then-c-lt48.branch [
      | then-c-lt48-via-then-c-lt48 w ↦ low_byte a.f.now a.most l.n l.c-index l.invariant a.least c.loop-c-test.true w.if-c-lt48.true
      | then-c-lt48-via-else-c-lt48+then-c-gt57 w ↦ high_byte a.f.now a.most l.n l.c-index l.invariant a.least c.loop-c-test.true w.if-c-gt57.true
    ]

pub returns-then-most-n : goal.returns-then-most-n
returns-then-most-n c = let l = c.loop-c in let a = c.args in passing a.f.now a.most l.n l.c-index l.invariant a.least c.loop-c-test.true (λ h. omega arith)

pub returns-then-most-n-2 : goal.returns-then-most-n-2
returns-then-most-n-2 c =
    passing c.args.f.now c.args.most c.loop-c.n c.loop-c.c-index c.loop-c.invariant c.args.least c.loop-c-test.true (λ h. omega arith)

pub loop-c-preserved : goal.loop-c-preserved
loop-c-preserved c =
    turn c.args.f.now c.args.most c.loop-c.n c.loop-c.c-index c.loop-c.invariant _ c.loop-c-test.true c.if-c-lt48.false
    c.if-c-gt57.false refl (omega arith)

pub returns-then-n-least : goal.returns-then-n-least
returns-then-n-least c = let l = c.loop-c in let a = c.args in too_little a.f.now a.most l.n l.c-index l.invariant a.least c.loop-c-test.false c.if-n-least.true

pub returns : goal.returns
returns c = let l = c.loop-c in let a = c.args in enough a.f.now a.most l.n l.c-index l.invariant a.least c.loop-c-test.false c.if-n-least.false
