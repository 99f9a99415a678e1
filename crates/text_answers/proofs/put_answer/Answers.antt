-- Room for the whole is room for each part, and the parts in turn make the whole. Assumes nothing.
use native.Mathlib.Omega.{arith}
use mir.Facts.{to_z-of_z}
use Rattle.text_answers.proofs.Answers.{room-number, room-serial, room-speed, room-sum, room-end, same_length as long, whole-answer}
use mir.Syntax.{w64}
use Rattle.text_answers.proofs.put_answer.Goals as goal

pub put_number-a-requires : goal.put_number-a-requires
put_number-a-requires c =
    let a = c.args in
    let pre = c.requires in
    room-number a.number a.serial a.speed a.sum a.out.now a.at pre

pub spaced-b-requires : goal.spaced-b-requires
spaced-b-requires c =
    let a = c.args in
    let pre = c.requires in
    let p = c.put_number-a.ensures in
    room-serial a.number a.serial a.speed a.sum a.out.now a.at pre _ _ p

pub spaced_signed-d-requires : goal.spaced_signed-d-requires
spaced_signed-d-requires c =
    let p = c.put_number-a.ensures in
    let s = c.spaced-b.ensures in
    rw (to_z-of_z {w = w64} c.ranges.speed) (room-speed c.args.number c.args.serial c.args.speed c.args.sum c.args.out.now c.args.at c.requires _ _ p _ _ s)

pub spaced_signed-e-requires : goal.spaced_signed-e-requires
spaced_signed-e-requires c =
    let p = c.put_number-a.ensures in
    let s = c.spaced-b.ensures in
    let v = rw (to_z-of_z {w = w64} c.ranges.speed) at c.spaced_signed-d.ensures in
    rw (to_z-of_z {w = w64} c.ranges.sum) (room-sum c.args.number c.args.serial c.args.speed c.args.sum c.args.out.now c.args.at c.requires _ _ p _ _ s _ _ v)

pub bounds-out-e : goal.bounds-out-e
bounds-out-e c =
    let p = c.put_number-a.ensures in
    let s = c.spaced-b.ensures in
    let v = rw (to_z-of_z {w = w64} c.ranges.speed) at c.spaced_signed-d.ensures in
    let w = rw (to_z-of_z {w = w64} c.ranges.sum) at c.spaced_signed-e.ensures in
    room-end c.args.number c.args.serial c.args.speed c.args.sum c.args.out.now c.args.at c.requires _ _ p _ _ s _ _ v _ _ w

pub overflow_add-result : goal.overflow_add-result
overflow_add-result c =
    let p = c.put_number-a.ensures in
    let s = c.spaced-b.ensures in
    let v = rw (to_z-of_z {w = w64} c.ranges.speed) at c.spaced_signed-d.ensures in
    let w = rw (to_z-of_z {w = w64} c.ranges.sum) at c.spaced_signed-e.ensures in
    omega (arith, (whole-answer c.args.number c.args.serial c.args.speed c.args.sum c.args.out.now c.args.at c.requires _ _ p _ _ s _ _ v _ _ w).next, c.requires, c.well_formed)

pub shape_of-out : goal.shape_of-out
shape_of-out c =
    let p = c.put_number-a.ensures in
    let s = c.spaced-b.ensures in
    let v = rw (to_z-of_z {w = w64} c.ranges.speed) at c.spaced_signed-d.ensures in
    let w = rw (to_z-of_z {w = w64} c.ranges.sum) at c.spaced_signed-e.ensures in
    long c.args.number c.args.serial c.args.speed c.args.sum c.args.out.now c.args.at c.requires _ _ p _ _ s _ _ v _ _ w

pub returns : goal.returns
returns c =
    let p = c.put_number-a.ensures in
    let s = c.spaced-b.ensures in
    let v = rw (to_z-of_z {w = w64} c.ranges.speed) at c.spaced_signed-d.ensures in
    let w = rw (to_z-of_z {w = w64} c.ranges.sum) at c.spaced_signed-e.ensures in
    whole-answer c.args.number c.args.serial c.args.speed c.args.sum c.args.out.now c.args.at c.requires _ _ p _ _ s _ _ v _ _ w
