-- Three words, one after the other. Assumes nothing.
use native.Mathlib.Omega.{arith}
use lib.ListN.{length-set}
use Rattle.record_gets.proofs.Writing.{put_three}
use borrow.Author.Rules.{rules}
use Rattle.record_gets.proofs.words.put_member.Goals as goal

pub bounds-out-at-2 : goal.bounds-out-at-2
bounds-out-at-2 c = simp length-set (omega (arith, c.requires.1))

pub bounds-out-at-3 : goal.bounds-out-at-3
bounds-out-at-3 c = simp length-set (omega (arith, c.requires.1))

pub returns : goal.returns
returns c =
    let a = c.args in
    put_three a.out.now a.at _ _ _ _ _ _ c.four_at.ensures.0 c.four_at-2.ensures.0 c.four_at-3.ensures.0
