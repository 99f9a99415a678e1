-- What is stored, with what is to come, is all of them (`Storing`). Assumes nothing.
use Rattle.std.specs.Prelude.{None, Some}
use Prim.Native.Nat.{◌-◌}
use native.Mathlib.Omega.{arith}
use mathlib.Core.Path.{◌≡◌}
use lib.ListN.{length}
use borrow.Author.Rules.{rules}
use Rattle.text_lines.proofs.Follow.{got_further}
use Rattle.text_lines.proofs.Serials.{Storing, store_start, store_turn, store_bad, store_end}
use Rattle.text_lines.proofs.blossoms.store_serials.Goals as goal

pub loop-e-init : goal.loop-e-init
loop-e-init c = store_start c.args.s.now c.args.out.now c.args.place

pub shape_of-out-in_default : goal.shape_of-out-in_default
shape_of-out-in_default c = c.loop-e.invariant.long

pub returns-in_default : goal.returns-in_default
returns-in_default c =
    let l = c.loop-e in
    let n = c.next_number in
    let q : n.result ≡ None = cc in
    store_bad c.args.s.now c.args.out.now c.args.place l.e l.n l.out l.invariant n.result n.ensures c.loop-e-test.true q

pub overflow_add-n : goal.overflow_add-n
overflow_add-n c = omega arith

pub loop-e-smaller : goal.loop-e-smaller
loop-e-smaller c =
    let l = c.loop-e in
    let n = c.next_number in
    let q : n.result ≡ Some (c.in-Some.v, c.in-Some.z) = cc in
    let i = got_further c.args.s.now l.e 1 4294967295 n.result n.ensures _ _ q in
    omega (arith, i.0, i.1)

pub loop-e-preserved : goal.loop-e-preserved
loop-e-preserved c =
    let l = c.loop-e in
    let n = c.next_number in
    let q : n.result ≡ Some (c.in-Some.v, c.in-Some.z) = cc in
    let a = c.args in
    store_turn a.s.now a.out.now a.place l.e l.n l.out l.invariant n.result n.ensures _ _ q _ c.put.ensures

pub shape_of-out : goal.shape_of-out
shape_of-out c = c.loop-e.invariant.long

pub returns : goal.returns
returns c = store_end c.args.s.now c.args.out.now c.args.place c.loop-e.e c.loop-e.n c.loop-e.out c.loop-e.invariant c.loop-e-test.false
