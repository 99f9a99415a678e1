-- A serial not given out yet is in no slot; else the interfaces passed do not have it, and past the eighth there is none. Assumes nothing.
use Rattle.std.specs.Prelude.{None, Some}
use Prim.Native.Nat.{ℕ, ◌≤◌}
use mathlib.Core.Path.{◌≡◌, subst}
use native.Mathlib.Omega.{arith}
use Rattle.bench_serials.proofs.Scanning.{unit_more, all_units, not_yet, scan_at, scan_none}
use Rattle.bench_serials.proofs.scan.Goals as goal

pub returns-then-next-serial : goal.returns-then-next-serial
returns-then-next-serial c = not_yet c.args.b.now c.args.serial.0 c.requires (subst (λ (x : ℕ). x ≤ c.args.serial.0) c.load_next-next.ensures c.if-next-serial.true)

pub loop-u-init : goal.loop-u-init
loop-u-init c = λ w s l. absurd (omega arith)

pub scan_unit-requires : goal.scan_unit-requires
scan_unit-requires c = record { canon = c.requires.canon; unit_bound = c.loop-u-test.true }

pub returns-in-Some : goal.returns-in-Some
returns-in-Some c =
    let k = c.in-Some.k in
    let q : c.scan_unit.result ≡ Some k = cc in
    scan_at c.args.b.now c.loop-u.u c.args.serial.0 k c.scan_unit.ensures q

pub loop-u-preserved : goal.loop-u-preserved
loop-u-preserved c =
    let q : c.scan_unit.result ≡ None = cc in
    unit_more c.args.b.now c.args.serial.0 c.loop-u.u c.loop-u.invariant (scan_none c.args.b.now c.loop-u.u c.args.serial.0 c.scan_unit.ensures q)

pub returns : goal.returns
returns c = all_units c.args.b.now c.args.serial.0 c.loop-u.u c.loop-u-test.false c.loop-u.invariant
