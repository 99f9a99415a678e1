-- What is written and what is left make the whole (`Writing`). Assumes nothing.
use Prim.Native.Nat.{◌+◌, ◌-◌, ◌*◌}
use mathlib.Core.Path.{◌≡◌}
use native.Mathlib.Omega.{arith}
use Rattle.record_lines.proofs.Serials.{Writing, writing, room, write_on, written}
use Rattle.record_lines.proofs.put_serials.Goals as goal

pub loop-i-init : goal.loop-i-init
loop-i-init c =
    let a = c.args in
    let e : a.q + 12 * 0 ≡ a.q = omega arith in
    let f : a.count - 0 ≡ a.count = omega arith in
    rw (e, f) (writing a.t.now a.count a.q a.out.now a.at)

pub put_field-place-requires : goal.put_field-place-requires
put_field-place-requires c =
    let a = c.args in
    let l = c.loop-i in
    room a.t.now a.count a.q a.out.now a.at l.out l.place (a.q + 12 * l.i) (a.count - l.i) l.invariant (omega arith) c.four_at-n.result
    c.four_at-n.ensures.0 c.requires.0

pub loop-i-preserved : goal.loop-i-preserved
loop-i-preserved c =
    let a = c.args in
    let l = c.loop-i in
    let e : a.q + 12 * (l.i + 1) ≡ a.q + 12 * l.i + 12 = omega arith in
    let f : a.count - (l.i + 1) ≡ a.count - l.i - 1 = omega arith in
    rw (e, f) (write_on a.t.now a.count a.q a.out.now a.at l.out l.place (a.q + 12 * l.i) (a.count - l.i) l.invariant (omega arith)
    c.four_at-n.result c.four_at-n.ensures.0 _ c.put_field-place.result c.put_field-place.auto.out c.put_field-place.ensures)

pub shape_of-out : goal.shape_of-out
shape_of-out c = c.loop-i.invariant.long

pub returns : goal.returns
returns c =
    let a = c.args in
    let l = c.loop-i in
    written a.t.now a.count a.q a.out.now a.at l.out l.place (a.q + 12 * l.i) (a.count - l.i) l.invariant (omega arith)
