-- What is written and what is left make the whole (`Putting`). Assumes nothing.
use Prim.Native.Nat.{◌+◌, ◌-◌, ◌*◌}
use mathlib.Core.Path.{◌≡◌}
use native.Mathlib.Omega.{arith}
use Rattle.record_gets.proofs.Writing.{Putting, putting, put_on, put_done}
use Rattle.record_gets.proofs.words.put_members.Goals as goal

pub loop-i-init : goal.loop-i-init
loop-i-init c =
    let a = c.args in
    let e : a.q + 12 * 0 ≡ a.q = omega arith in
    let f : a.place + 3 * 0 ≡ a.place = omega arith in
    let g : a.count - 0 ≡ a.count = omega arith in
    rw (e, f, g) (putting a.s.now a.q a.count a.out.now a.place)

pub loop-i-preserved : goal.loop-i-preserved
loop-i-preserved c =
    let a = c.args in
    let l = c.loop-i in
    let e : a.q + 12 * (l.i + 1) ≡ a.q + 12 * l.i + 12 = omega arith in
    let f : a.place + 3 * (l.i + 1) ≡ a.place + 3 * l.i + 3 = omega arith in
    let g : a.count - (l.i + 1) ≡ a.count - l.i - 1 = omega arith in
    rw (e, f, g) (put_on a.s.now a.q a.count a.out.now a.place l.out (a.q + 12 * l.i) (a.place + 3 * l.i) (a.count - l.i) l.invariant (omega arith) _
    c.put_member.ensures)

pub shape_of-out : goal.shape_of-out
shape_of-out c = c.loop-i.invariant.long

pub returns : goal.returns
returns c =
    let a = c.args in
    let l = c.loop-i in
    put_done a.s.now a.q a.count a.out.now a.place l.out (a.q + 12 * l.i) (a.place + 3 * l.i) (a.count - l.i) l.invariant (omega arith)
