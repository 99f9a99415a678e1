-- What is written and what is left make the whole (`Putting`). Assumes nothing.
use native.Mathlib.Omega.{arith}
use mathlib.Core.Path.{refl}
use lib.ListN.{take}
use lib.Seq.{length-take-le}
use Rattle.record_puts.proofs.Putting.{Putting, putting, put_on, put_done}
use Rattle.record_puts.proofs.put_members.Goals as goal

pub loop-n-init : goal.loop-n-init
loop-n-init c = let a = c.args in putting (take a.count a.serials.now) a.out.now a.at

pub put_member-p-requires : goal.put_member-p-requires
put_member-p-requires c =
    omega (
      arith,
      c.loop-n.invariant.place,
      c.loop-n.invariant.long,
      length-take-le c.args.count c.args.serials.now c.requires.1,
      c.loop-n-test.true,
      c.requires.0,
    )

pub loop-n-preserved : goal.loop-n-preserved
loop-n-preserved c =
    let a = c.args in
    let l = c.loop-n in
    let m = c.put_member-p in
    put_on (take a.count a.serials.now) a.out.now a.at l.n-index l.p l.out l.invariant c.loop-n-test.true _ refl _ m.result m.auto.out m.ensures

pub shape_of-out : goal.shape_of-out
shape_of-out c = c.loop-n.invariant.long

pub returns : goal.returns
returns c =
    let a = c.args in
    let l = c.loop-n in
    put_done (take a.count a.serials.now) a.out.now a.at l.n-index l.p l.out l.invariant c.loop-n-test.false
