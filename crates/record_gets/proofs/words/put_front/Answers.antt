-- Two words, three or four. Assumes nothing.
use native.Mathlib.Omega.{arith}
use lib.ListN.{length-set}
use Rattle.record_gets.proofs.Writing.{front_two, front_three, front_four}
use borrow.Author.Rules.{rules}
use Rattle.record_gets.proofs.words.put_front.Goals as goal

pub bounds-out-1 : goal.bounds-out-1
bounds-out-1 c = simp length-set (omega (arith, c.requires.0, c.requires.1.1))

pub returns-then-f-eq2 : goal.returns-then-f-eq2
returns-then-f-eq2 c = let a = c.args in front_two a.out.now a.f c.if-f-eq2.true

pub bounds-out-2 : goal.bounds-out-2
bounds-out-2 c = simp length-set (omega (arith, c.requires.0, c.requires.1.1, c.if-f-eq2.false))

pub returns-then-f-eq3 : goal.returns-then-f-eq3
returns-then-f-eq3 c = let a = c.args in front_three a.out.now a.f c.if-f-eq3.true

pub bounds-out-3 : goal.bounds-out-3
bounds-out-3 c = simp length-set (omega (arith, c.requires.0, c.requires.1.1, c.if-f-eq2.false, c.if-f-eq3.false))

pub returns : goal.returns
returns c =
    front_four c.args.out.now c.args.f (omega (arith, c.requires.0, c.requires.1.0, c.if-f-eq2.false, c.if-f-eq3.false))
