-- Each way out is a part of the test. Assumes nothing.
use Rattle.sound_floors.proofs.Rows.{good_loaded, used_small, not_level, unfloored, all_afloat}
use mathlib.Core.Path.{ap}
use mathlib.Core.Bool.{not}
use Rattle.sound_floors.proofs.is_floor.Goals as goal

pub is_level-requires : goal.is_level-requires
is_level-requires c = let a = c.args in let f = c.load_interface-f in good_loaded a.b.now a.u f.result f.ensures

pub returns-then-not-is_level : goal.returns-then-not-is_level
returns-then-not-is_level c =
    let a = c.args in
    let f = c.load_interface-f in
    not_level a.b.now a.u f.result f.ensures c.is_level.result c.is_level.ensures (ap not c.if-not-is_level.true)

pub returns-then-not-marks : goal.returns-then-not-marks
returns-then-not-marks c =
    let a = c.args in
    let f = c.load_interface-f in
    unfloored a.b.now a.u f.result f.ensures c.is_level.result c.is_level.ensures (ap not c.if-not-is_level.false) c.if-not-marks.true

pub climb-c-requires : goal.climb-c-requires
climb-c-requires c = record { unit_bound = c.requires.u_bound; steady = c.requires.steady }

pub are_afloat-requires : goal.are_afloat-requires
are_afloat-requires c =
    let f = c.load_interface-f in record { u_bound = c.requires.u_bound; used_bound = used_small c.args.b.now c.args.u f.result f.ensures c.requires.steady c.requires.u_bound; t_bound = c.climb-c.ensures.small }

pub returns : goal.returns
returns c =
    let a = c.args in
    let f = c.load_interface-f in
    all_afloat a.b.now a.u f.result f.ensures c.is_level.result c.is_level.ensures (ap not c.if-not-is_level.false) c.if-not-marks.false c.climb-c.ensures c.are_afloat.result c.are_afloat.ensures
