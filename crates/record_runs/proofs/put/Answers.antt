-- Four stores. Assumes nothing.
use native.Mathlib.Omega.{arith}
use Prim.Native.Nat.{◌<◌}
use mir.Syntax.{w64}
use mir.Val.{SFits}
use lib.ListN.{length-set}
use Rattle.record_runs.proofs.Putting.{put_four}
use borrow.Author.Rules.{rules}
use Rattle.record_runs.proofs.put.Goals as goal

pub bounds-answers-at-2 : goal.bounds-answers-at-2
bounds-answers-at-2 c = simp length-set (omega (arith, c.requires))

pub bounds-answers-at-3 : goal.bounds-answers-at-3
bounds-answers-at-3 c = simp length-set (omega (arith, c.requires))

pub bounds-answers-at-4 : goal.bounds-answers-at-4
bounds-answers-at-4 c = simp length-set (omega (arith, c.requires))

pub returns : goal.returns
returns c =
    let a = c.args in
    let r = a.r in
    let v : SFits w64 r.speed = search rules in
    let w : SFits w64 r.sum = search rules in
    let n : r.number < 256 = search rules in
    let k : r.serial < 4294967296 = search rules in
    put_four a.answers.now a.at r.number r.serial r.speed r.sum (omega (arith, n)) (omega (arith, k)) v w
