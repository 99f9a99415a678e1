-- The loop tells a member a turn to stay, each just past what is told. Assumes nothing.
use mathlib.Core.Path.{refl}
use native.Mathlib.Omega.{arith}
use Rattle.link_told.proofs.Writing.{stay_more, stay_all}
use Rattle.link_told.proofs.put_stays.Goals as goal

pub loop-i-init : goal.loop-i-init
loop-i-init c = refl

pub loop-i-preserved : goal.loop-i-preserved
loop-i-preserved c =
    let l = c.loop-i in
    let w = c.member_word in
    stay_more c.args.members.now l.i c.args.out.now l.out w.result (omega arith) w.ensures l.invariant

pub returns : goal.returns
returns c = stay_all c.args.members.now c.loop-i.i c.args.out.now c.loop-i.out (omega arith) c.loop-i.invariant
