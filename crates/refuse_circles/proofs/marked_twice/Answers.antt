-- A word passed has its mark; where none is met, none is given twice. Assumes nothing.
use native.Mathlib.Omega.{arith}
use Rattle.refuse_circles.proofs.Seen.{going_starts, going_here, going_on, going_ends}
use Rattle.refuse_circles.proofs.marked_twice.Goals as goal

pub loop-w-init : goal.loop-w-init
loop-w-init c = going_starts c.args.ws.now c.args.seen.now c.requires.1

pub bounds-seen-k : goal.bounds-seen-k
bounds-seen-k c = omega (arith, c.spot-k.ensures.1, c.loop-w.invariant.long)

pub returns-then-seen-k-eq1 : goal.returns-then-seen-k-eq1
returns-then-seen-k-eq1 c =
    let l = c.loop-w in
    going_here c.args.ws.now l.seen l.w-index l.invariant c.loop-w-test.true c.spot-k.result c.spot-k.ensures.0 c.if-seen-k-eq1.true

pub loop-w-preserved : goal.loop-w-preserved
loop-w-preserved c =
    let l = c.loop-w in
    going_on c.args.ws.now l.seen l.w-index l.invariant c.loop-w-test.true c.requires.0 c.spot-k.result c.spot-k.ensures.0 c.if-seen-k-eq1.false

pub returns : goal.returns
returns c = let l = c.loop-w in going_ends c.args.ws.now l.seen l.w-index l.invariant (omega arith)
