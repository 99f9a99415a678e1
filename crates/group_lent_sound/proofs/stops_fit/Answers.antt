-- What is left of the stops decides. Assumes nothing.
use Prim.Native.Nat.{◌-◌}
use mathlib.Core.Path.{◌≡◌, ap}
use native.Mathlib.Omega.{arith}
use Rattle.group_lent_sound.specs.Test.{stops_fit}
use Rattle.group_lent_sound.proofs.Fits.{stops_no, stops_on, stops_end}
use Rattle.group_lent_sound.proofs.stops_fit.Goals as goal

pub loop-i-init : goal.loop-i-init
loop-i-init c = let z : c.args.m ≡ c.args.m - 0 = omega arith in (omega arith, ap (stops_fit c.args.w.now 0 0) z)

pub returns-then-not-stop_fits : goal.returns-then-not-stop_fits
returns-then-not-stop_fits c = stops_no c.args.w.now c.args.m c.loop-i.i _ _ c.loop-i-test.true c.loop-i.least c.loop-i.invariant.1 c.stop_fits.ensures (c.if-not-stop_fits.true)

pub loop-i-preserved : goal.loop-i-preserved
loop-i-preserved c = (omega arith, stops_on c.args.w.now c.args.m c.loop-i.i _ _ c.loop-i-test.true c.loop-i.least c.loop-i.invariant.1 c.stop_fits.ensures (c.if-not-stop_fits.false))

pub returns : goal.returns
returns c = stops_end c.args.w.now c.args.m c.loop-i.i _ c.loop-i-test.false c.loop-i.least c.loop-i.invariant.1
