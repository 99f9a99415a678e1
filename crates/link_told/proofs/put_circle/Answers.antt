-- The loop writes a member a turn. Assumes nothing.
use mathlib.Core.Path.{refl}
use native.Mathlib.Omega.{arith}
use Rattle.link_told.proofs.Writing.{circle_more, circle_all}
use Rattle.link_told.proofs.put_circle.Goals as goal

pub loop-i-init : goal.loop-i-init
loop-i-init c = refl

pub loop-i-preserved : goal.loop-i-preserved
loop-i-preserved c =
    let l = c.loop-i in
    let w = c.member_word in
    circle_more c.args.members.now l.i c.args.out.now l.out w.result (omega arith) w.ensures l.invariant

pub returns : goal.returns
returns c = circle_all c.args.members.now c.loop-i.i c.args.out.now c.loop-i.out (omega arith) c.loop-i.invariant
