-- The slots passed do not hold the serial; those past the used ones are empty. Assumes nothing.
use Rattle.std.specs.Prelude.{None, Some}
use mathlib.Core.Path.{◌≡◌, refl, ap}
use native.Mathlib.Omega.{arith}
use Rattle.bench_words.specs.declared.Interface.{Interface}
use Rattle.bench_links.proofs.Finding.{found_at, found_none}
use Rattle.bench_serials.specs.Seek.{handle}
use Rattle.bench_serials.proofs.Scanning.{held_at, one_more, all_slots}
use Rattle.bench_serials.proofs.scan_unit.Goals as goal

pub loop-s-init : goal.loop-s-init
loop-s-init c = λ t l. absurd (omega arith)

pub overflow_cast-h : goal.overflow_cast-h
overflow_cast-h c = record { fits = omega (arith, c.loop-s-test.true, c.requires.canon.steady.slots c.args.unit c.requires.unit_bound, ap (λ (x : Interface). x.used) c.load_interface-f.ensures) }

pub returns-in-Some : goal.returns-in-Some
returns-in-Some c =
    let k = c.in-Some.k in
    let q : c.find.result ≡ Some k = cc in
    held_at c.args.b.now c.args.serial.0 (handle c.args.unit c.loop-s.s c.args.serial.0) k refl
    (found_at c.args.b.now (handle c.args.unit c.loop-s.s c.args.serial.0) c.find.ensures k q)

pub loop-s-preserved : goal.loop-s-preserved
loop-s-preserved c =
    let q : c.find.result ≡ None = cc in
    one_more c.args.b.now c.args.serial.0 c.args.unit c.loop-s.s c.loop-s.invariant (found_none c.args.b.now (handle c.args.unit c.loop-s.s c.args.serial.0) c.find.ensures q)

pub returns : goal.returns
returns c =
    all_slots c.args.b.now c.args.serial.0 c.args.unit c.loop-s.s c.load_interface-f.result c.requires.unit_bound c.load_interface-f.ensures c.loop-s-test.false c.loop-s.invariant
