-- At each return the tests that led there say which case of `Judging` it is. Assumes nothing.
use mathlib.Core.Path.{ap}
use native.Mathlib.Omega.{arith}
use Rattle.bench_words.specs.declared.Interface.{Interface}
use Rattle.refuse_calls.proofs.Lengths.{back, forward}
use Rattle.recorded_sound.proofs.Judging.{refuses, by_unit, here, by_length, progress_low, by_step, by_room, by_all}
use borrow.Author.Rules.{rules}
use Rattle.recorded_sound.proofs.judge.Goals as goal

pub returns-then-number-ne0 : goal.returns-then-number-ne0
returns-then-number-ne0 c = let a = c.args in refuses a.b.now c.requires a.unit a.length a.groups.now a.room c.unit_number-number.result c.refused.result (by_unit a.b.now c.requires a.unit a.length a.groups.now a.room c.unit_number-number.result c.unit_number-number.ensures c.if-number-ne0.true) c.if-number-ne0.true c.refused.ensures.0 c.refused.ensures.1

pub returns-then-length-lt0 : goal.returns-then-length-lt0
returns-then-length-lt0 c = let a = c.args in refuses a.b.now c.requires a.unit a.length a.groups.now a.room 5 c.refused-then-length-lt0.result (by_length a.b.now c.requires a.unit a.length a.groups.now a.room c.unit_number-number.result c.unit_number-number.ensures c.if-number-ne0.false (back c.ranges.length c.if-length-lt0.true)) (λ z. omega (arith, z)) c.refused-then-length-lt0.ensures.0 c.refused-then-length-lt0.ensures.1

pub load_interface-f-requires : goal.load_interface-f-requires
load_interface-f-requires c = let a = c.args in (here a.b.now c.requires a.unit a.length a.groups.now a.room c.unit_number-number.result c.unit_number-number.ensures c.if-number-ne0.false).low

pub overflow_sub-reach : goal.overflow_sub-reach
overflow_sub-reach c = let a = c.args in omega (arith, ap (λ (x : Interface). x.progress) c.load_interface-f.ensures, progress_low a.b.now c.requires a.unit a.length a.groups.now a.room c.unit_number-number.result c.unit_number-number.ensures c.if-number-ne0.false)

pub least_shrinking-floor-requires : goal.least_shrinking-floor-requires
least_shrinking-floor-requires c = let a = c.args in record { fit = c.requires; unit_bound = (here a.b.now c.requires a.unit a.length a.groups.now a.room c.unit_number-number.result c.unit_number-number.ensures c.if-number-ne0.false).low; unit_value = (here a.b.now c.requires a.unit a.length a.groups.now a.room c.unit_number-number.result c.unit_number-number.ensures c.if-number-ne0.false).free }

pub overflow_cast-length : goal.overflow_cast-length
overflow_cast-length c = let a = c.args in (forward a.length c.ranges.length c.if-length-lt0.false).whole

pub returns-then-p-ne0 : goal.returns-then-p-ne0
returns-then-p-ne0 c =
    let a = c.args in let fw = forward a.length c.ranges.length c.if-length-lt0.false in by_step a.b.now c.requires a.unit a.length a.groups.now a.room c.unit_number-number.result c.unit_number-number.ensures c.if-number-ne0.false _ c.load_interface-f.ensures _ c.least_shrinking-floor.ensures _ fw.is fw.sign _ c.pass-p.ensures c.if-p-ne0.true

pub returns-then-room-count : goal.returns-then-room-count
returns-then-room-count c =
    let a = c.args in let fw = forward a.length c.ranges.length c.if-length-lt0.false in refuses a.b.now c.requires a.unit a.length a.groups.now a.room 19 c.refused-then-room-count.result (by_room a.b.now c.requires a.unit a.length a.groups.now a.room c.unit_number-number.result c.unit_number-number.ensures c.if-number-ne0.false _ c.load_interface-f.ensures _ c.least_shrinking-floor.ensures _ fw.is fw.sign _ c.pass-p.ensures c.if-p-ne0.false (omega (arith, c.count.ensures))) (λ z. omega (arith, z)) c.refused-then-room-count.ensures.0 c.refused-then-room-count.ensures.1

pub returns : goal.returns
returns c =
    let a = c.args in let fw = forward a.length c.ranges.length c.if-length-lt0.false in by_all a.b.now c.requires a.unit a.length a.groups.now a.room c.unit_number-number.result c.unit_number-number.ensures c.if-number-ne0.false _ c.load_interface-f.ensures _ c.least_shrinking-floor.ensures _ fw.is fw.sign _ c.pass-p.ensures c.if-p-ne0.false (omega (arith, c.count.ensures))
