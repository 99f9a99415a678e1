-- The number is that of the first test that holds; the progress limit leaves room for any length. Assumes nothing.
use native.Mathlib.Omega.{arith}
use mathlib.Core.Path.{ap}
use Rattle.bench_words.specs.declared.Interface.{Interface}
use Rattle.refuse_calls.proofs.Lengths.{back, forward}
use Rattle.refuse_calls.proofs.Units.{unit_low, grow_no, grow_back, grow_far, grow_fine}
use Rattle.refuse_calls.proofs.length_number.Goals as goal

pub returns-then-number-ne0 : goal.returns-then-number-ne0
returns-then-number-ne0 c = grow_no c.args.b.now c.args.unit c.unit_number-number.result c.unit_number-number.ensures c.args.length c.if-number-ne0.true

pub returns-then-length-lt0 : goal.returns-then-length-lt0
returns-then-length-lt0 c = grow_back c.args.b.now c.args.unit c.unit_number-number.result c.unit_number-number.ensures c.if-number-ne0.false c.args.length (back c.ranges.length c.if-length-lt0.true)

pub load_interface-f-requires : goal.load_interface-f-requires
load_interface-f-requires c = unit_low c.args.b.now c.args.unit c.unit_number-number.result c.unit_number-number.ensures c.if-number-ne0.false

pub overflow_cast-length : goal.overflow_cast-length
overflow_cast-length c = (forward c.args.length c.ranges.length c.if-length-lt0.false).whole

pub overflow_add-f : goal.overflow_add-f
overflow_add-f c =
    let f = forward c.args.length c.ranges.length c.if-length-lt0.false in
    record { fits = omega (arith, f.small, ap (λ (x : Interface). x.progress) c.load_interface-f.ensures, c.requires.progress c.args.unit (unit_low c.args.b.now c.args.unit c.unit_number-number.result c.unit_number-number.ensures c.if-number-ne0.false)) }

pub returns-then-f-length-gt-PROGRESS : goal.returns-then-f-length-gt-PROGRESS
returns-then-f-length-gt-PROGRESS c =
    grow_far c.args.b.now c.args.unit c.unit_number-number.result c.unit_number-number.ensures c.if-number-ne0.false c.load_interface-f.result c.load_interface-f.ensures _ c.args.length (forward c.args.length c.ranges.length c.if-length-lt0.false).is c.if-f-length-gt-PROGRESS.true

pub returns : goal.returns
returns c =
    grow_fine c.args.b.now c.args.unit c.unit_number-number.result c.unit_number-number.ensures c.if-number-ne0.false c.load_interface-f.result c.load_interface-f.ensures _ c.args.length (forward c.args.length c.ranges.length c.if-length-lt0.false).is c.if-f-length-gt-PROGRESS.false
