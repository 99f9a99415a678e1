-- The letter, the unit, the fields after it, the newline (`Here`). Assumes nothing.
use native.Mathlib.Omega.{arith}
use mathlib.Core.Path.{refl}
use lib.ListN.{length, get_or, length-set}
use Rattle.record_lines.proofs.Lines.{here, numbers_there, unit_room, fields_room, end_room, end_fits, whole_long, whole_line}
use Rattle.record_lines.proofs.put_line.Goals as goal

pub bounds-t-p : goal.bounds-t-p
bounds-t-p c =
    let a = c.args in
    let h = here a.t.now a.p a.at (length a.out.now) c.requires in
    omega (arith, h.stood.long)

pub overflow_add-p : goal.overflow_add-p
overflow_add-p c =
    let a = c.args in
    let h = here a.t.now a.p a.at (length a.out.now) c.requires in
    omega (arith, h.stood.long, c.well_formed)

pub byte_at-unit-requires : goal.byte_at-unit-requires
byte_at-unit-requires c =
    let a = c.args in
    let h = here a.t.now a.p a.at (length a.out.now) c.requires in
    omega (arith, h.stood.long)

pub bounds-out-at : goal.bounds-out-at
bounds-out-at c =
    let a = c.args in
    let h = here a.t.now a.p a.at (length a.out.now) c.requires in
    omega (arith, h.fits)

pub overflow_add-at : goal.overflow_add-at
overflow_add-at c =
    let a = c.args in
    let h = here a.t.now a.p a.at (length a.out.now) c.requires in
    omega (arith, h.fits, c.well_formed)

pub put_field-a-requires : goal.put_field-a-requires
put_field-a-requires c =
    let a = c.args in
    let h = here a.t.now a.p a.at (length a.out.now) c.requires in
    simp length-set (omega (arith, unit_room a.t.now a.p a.at a.out.now h (get_or a.t.now a.p 0) c.byte_at-unit.result refl c.byte_at-unit.ensures.0))

pub overflow_add-p-2 : goal.overflow_add-p-2
overflow_add-p-2 c =
    let h = here c.args.t.now c.args.p c.args.at (length c.args.out.now) c.requires in
    omega (arith, h.stood.long, c.well_formed)

pub put_fields-b-requires : goal.put_fields-b-requires
put_fields-b-requires c =
    let h = here c.args.t.now c.args.p c.args.at (length c.args.out.now) c.requires in
    let l = get_or c.args.t.now c.args.p 0 in
    (fields_room c.args.t.now c.args.p c.args.at c.args.out.now h l c.byte_at-unit.result refl c.byte_at-unit.ensures.0 _ _ c.put_field-a.ensures, numbers_there c.args.t.now c.args.p c.args.at c.args.out.now h l c.byte_at-unit.result refl c.byte_at-unit.ensures.0)

pub bounds-out-b : goal.bounds-out-b
bounds-out-b c =
    let h = here c.args.t.now c.args.p c.args.at (length c.args.out.now) c.requires in
    omega (arith, end_room c.args.t.now c.args.p c.args.at c.args.out.now h (get_or c.args.t.now c.args.p 0) c.byte_at-unit.result refl c.byte_at-unit.ensures.0 _ _ c.put_field-a.ensures _ _ c.put_fields-b.ensures)

pub overflow_add-result : goal.overflow_add-result
overflow_add-result c =
    let h = here c.args.t.now c.args.p c.args.at (length c.args.out.now) c.requires in
    omega (arith, end_fits c.args.t.now c.args.p c.args.at c.args.out.now h (get_or c.args.t.now c.args.p 0) c.byte_at-unit.result refl c.byte_at-unit.ensures.0 _ _ c.put_field-a.ensures _ _ c.put_fields-b.ensures, c.well_formed)

pub shape_of-out : goal.shape_of-out
shape_of-out c =
    let h = here c.args.t.now c.args.p c.args.at (length c.args.out.now) c.requires in
    whole_long c.args.t.now c.args.p c.args.at c.args.out.now h (get_or c.args.t.now c.args.p 0) c.byte_at-unit.result refl c.byte_at-unit.ensures.0 _ _ c.put_field-a.ensures _ _ c.put_fields-b.ensures

pub returns : goal.returns
returns c =
    let h = here c.args.t.now c.args.p c.args.at (length c.args.out.now) c.requires in
    whole_line c.args.t.now c.args.p c.args.at c.args.out.now h (get_or c.args.t.now c.args.p 0) c.byte_at-unit.result refl c.byte_at-unit.ensures.0 _ _ c.put_field-a.ensures _ _ c.put_fields-b.ensures
