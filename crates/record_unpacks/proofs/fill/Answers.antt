-- What is written and what is left make the whole (`Filling`). Assumes nothing.
use Prim.Native.Nat.{◌+◌, ◌-◌, ◌*◌}
use mathlib.Core.Path.{◌≡◌}
use native.Mathlib.Omega.{arith}
use Rattle.record_files.proofs.Slices.{bytes_all}
use Rattle.record_unpacks.proofs.Filling.{Filling, filling, line_ready, fill_on, filled}
use Rattle.record_unpacks.proofs.fill.Goals as goal

pub loop-i-init : goal.loop-i-init
loop-i-init c =
    let a = c.args in
    let e : a.list + 4 * 0 ≡ a.list = omega arith in
    let f : a.count - 0 ≡ a.count = omega arith in
    rw (e, f) (filling a.s.now a.t.now a.list a.count a.out.now c.requires.1)

pub put_line-at-requires : goal.put_line-at-requires
put_line-at-requires c =
    let a = c.args in
    let l = c.loop-i in
    line_ready a.s.now a.t.now a.list a.count a.out.now (a.list + 4 * l.i) (a.count - l.i) l.at l.out (bytes_all a.t.now c.type_inv.t) l.invariant
    (omega arith) c.four_at-p.result c.four_at-p.ensures.0

pub loop-i-preserved : goal.loop-i-preserved
loop-i-preserved c =
    let a = c.args in
    let l = c.loop-i in
    let w = c.put_line-at in
    let e : a.list + 4 * (l.i + 1) ≡ a.list + 4 * l.i + 4 = omega arith in
    let f : a.count - (l.i + 1) ≡ a.count - l.i - 1 = omega arith in
    rw (e, f) (fill_on a.s.now a.t.now a.list a.count a.out.now (a.list + 4 * l.i) (a.count - l.i) l.at l.out (bytes_all a.t.now c.type_inv.t)
    l.invariant (omega arith)
    c.four_at-p.result c.four_at-p.ensures.0 _ w.result w.auto.out w.ensures)

pub shape_of-out : goal.shape_of-out
shape_of-out c = c.loop-i.invariant.long

pub returns : goal.returns
returns c =
    let a = c.args in
    let l = c.loop-i in
    filled a.s.now a.t.now a.list a.count a.out.now (a.list + 4 * l.i) (a.count - l.i) l.at l.out (bytes_all a.t.now c.type_inv.t) l.invariant (omega arith)
