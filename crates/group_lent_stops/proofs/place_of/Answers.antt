-- A turn of the loop passes one stop below the vertex. Assumes nothing.
use Prim.Native.Nat.{◌+◌, ◌*◌}
use mathlib.Core.Path.{◌≡◌}
use native.Mathlib.Omega.{arith}
use lib.ListN.{get_or}
use Rattle.group_lent.specs.Groups.{stop_at}
use Rattle.group_lent.specs.Place.{stopped}
use Rattle.group_lent_stops.specs.Stops.{place_in}
use Rattle.group_lent_stops.proofs.Places.{vertex_is, place_begin, place_stop, place_turn, place_end}
use Rattle.group_lent_stops.proofs.place_of.Goals as goal

pub loop-p-init : goal.loop-p-init
unfolding place_in
loop-p-init c = (omega arith, place_begin c.args.w.now c.args.v)

pub returns-then-v-w : goal.returns-then-v-w
returns-then-v-w c =
    let v : (stop_at c.args.w.now c.loop-p.p).vertex.0 ≡ get_or c.args.w.now (645 + c.loop-p.p * 6) 0 = vertex_is c.args.w.now c.loop-p.p (c.requires.stops c.loop-p.p (omega arith)) in
    place_stop (stop_at c.args.w.now) c.args.v (stopped c.args.w.now) c.loop-p.p (place_in c.args.w.now c.args.v) c.loop-p.invariant.1 c.loop-p-test.true (rw v c.if-v-w.true)

pub loop-p-preserved : goal.loop-p-preserved
loop-p-preserved c =
    let v : (stop_at c.args.w.now c.loop-p.p).vertex.0 ≡ get_or c.args.w.now (645 + c.loop-p.p * 6) 0 = vertex_is c.args.w.now c.loop-p.p (c.requires.stops c.loop-p.p (omega arith)) in
    (omega arith, place_turn (stop_at c.args.w.now) c.args.v (stopped c.args.w.now) c.loop-p.p (place_in c.args.w.now c.args.v) c.loop-p.invariant.1 c.loop-p-test.true (rw v c.if-v-w.false))

pub returns : goal.returns
returns c =
    omega (arith, place_end (stop_at c.args.w.now) c.args.v (stopped c.args.w.now) c.loop-p.p (place_in c.args.w.now c.args.v) c.loop-p.invariant.1 c.loop-p-test.false)
