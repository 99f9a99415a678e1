-- The number so far with that of the words left is the whole list's. Assumes nothing.
use mathlib.Core.Path.{sym}
use native.Mathlib.Omega.{arith}
use Rattle.bench_views.specs.View.{view}
use Rattle.refuse_circles.proofs.Lowest.{none_lower, turn, ends}
use Rattle.refuse_circles.proofs.list_number.Goals as goal

pub loop-w-init : goal.loop-w-init
loop-w-init c = sym (none_lower _)

pub loop-w-preserved : goal.loop-w-preserved
loop-w-preserved c =
    let a = c.args in
    let l = c.loop-w in
    let w = c.word_number in
    turn (view a.b.now) a.unit a.ws.now l.number w.result l.w-index c.loop-w-test.true c.lower-number.ensures w.ensures l.invariant

pub returns : goal.returns
returns c =
    let a = c.args in
    ends (view a.b.now) a.unit a.ws.now c.loop-w.number c.loop-w.w-index (omega arith) c.loop-w.invariant
