-- One member after the other. Assumes nothing.
use native.Mathlib.Omega.{arith}
use lib.ListN.{length-set}
use Rattle.record_calls.proofs.Laying.{Laying, laying, laid_one, laid_all}
use Rattle.record_calls.proofs.lay.Goals as goal

pub loop-i-init : goal.loop-i-init
loop-i-init c = let a = c.args in laying a.s.now a.q a.n a.members.now a.touching.now

pub loop-i-preserved : goal.loop-i-preserved
loop-i-preserved c =
    let a = c.args in
    let v = c.loop-i in
    laid_one a.s.now a.q a.n a.members.now a.touching.now v.members v.touching v.i v.invariant c.loop-i-test.true c.requires.1.0 c.requires.1.1
    c.four_at-serial.result c.four_at-first.result c.four_at-second.result c.four_at-serial.ensures.0 c.four_at-first.ensures.0 c.four_at-second.ensures.0

pub shape_of-members : goal.shape_of-members
shape_of-members c = c.loop-i.invariant.long

pub shape_of-touching : goal.shape_of-touching
shape_of-touching c = c.loop-i.invariant.wide

pub returns : goal.returns
returns c = let a = c.args in let v = c.loop-i in laid_all a.s.now a.q a.n a.members.now a.touching.now v.members v.touching v.i v.invariant c.loop-i-test.false
