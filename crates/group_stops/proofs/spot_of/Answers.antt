-- `spot_of` passes the stops below the vertex: where it stands among the rest is the answer. Assumes nothing.
use Rattle.std.proofs.Common.{◌≡◌, length, take, sym, ◌∙◌, ap, arith}
use lib.Seq.{length-take-le}
use Rattle.groups.specs.View.{no_stop}
use Rattle.group_stops.specs.declared.Spot.TheVariants.{Free}
use Rattle.group_stops.proofs.Spots.{spot_end, spot_free, spot_held, spot_goes}
use Rattle.group_stops.proofs.spot_of.Goals as goal

pub returns-then-v-y : goal.returns-then-v-y
returns-then-v-y c = sym (c.loop-i.invariant ∙ spot_free _ _ _ no_stop c.loop-i-test.true c.if-v-y.true)

pub returns-then-v-y-2 : goal.returns-then-v-y-2
returns-then-v-y-2 c = sym (c.loop-i.invariant ∙ spot_held _ _ _ no_stop c.loop-i-test.true c.if-v-y.false c.if-v-y-2.true)

pub loop-i-preserved : goal.loop-i-preserved
loop-i-preserved c = c.loop-i.invariant ∙ spot_goes _ _ _ no_stop c.loop-i-test.true c.if-v-y.false c.if-v-y-2.false

pub returns : goal.returns
returns c =
    let n : length (take c.args.n c.args.stops) ≡ c.args.n = length-take-le c.args.n c.args.stops (omega arith) in
    let e : c.loop-i.i ≡ c.args.n = omega arith in
    sym (c.loop-i.invariant ∙ spot_end _ c.loop-i.i _ no_stop c.loop-i-test.false ∙ ap Free e)
