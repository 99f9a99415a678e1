-- What is written and what is left make the whole (`Filling`); each line ends further on. Assumes nothing.
use native.Mathlib.Omega.{arith}
use Prim.Native.Nat.{◌-◌}
use mathlib.Core.Path.{◌≡◌, ◌∙◌, ap}
use mathlib.Core.List.{List}
use borrow.Author.Rules.{rules}
use lib.ListN.{length, take, drop}
use Rattle.text_decimals.proofs.Writes.{same_text}
use Rattle.record_spec.specs.Operations.{Op}
use Rattle.record_packs.proofs.Filling.{Filling, filling, line_read, next, enough, fill_on, filled}
use Rattle.record_packs.proofs.fill.Goals as goal

pub loop-from-init : goal.loop-from-init
loop-from-init c = (filling c.args.text.now c.args.out.now c.args.start c.requires, search rules)

pub part_end-e-requires : goal.part_end-e-requires
part_end-e-requires c = c.loop-from.invariant.0.low

pub slice_bounds-read_line-count : goal.slice_bounds-read_line-count
slice_bounds-read_line-count c = omega (arith, c.part_end-e.ensures.low)

pub put_record-next-requires : goal.put_record-next-requires
put_record-next-requires c =
    let a = c.args in
    let l = c.loop-from in
    let e = c.part_end-e in
    let n = next a.text.now a.out.now a.start l.from l.p l.entry l.out l.invariant.0 c.loop-from-test.true e.result e.ensures in
    let r = c.read_line-line in
    let f = take (e.result - l.from) (drop l.from a.text.now) in
    let x = line_read f _ _ r.result n.op r.ensures l.invariant.1 (r.auto.serials ∙ l.invariant.1) n.said in
    enough a.text.now a.out.now a.start l.from l.p l.entry l.out l.invariant.0 c.loop-from-test.true e.result e.ensures n _ r.result x

pub put_four-requires : goal.put_four-requires
put_four-requires c =
    let a = c.args in
    let l = c.loop-from in
    let e = c.part_end-e in
    let n = next a.text.now a.out.now a.start l.from l.p l.entry l.out l.invariant.0 c.loop-from-test.true e.result e.ensures in
    omega (arith, l.invariant.0.room, ap (λ (y : List Op). length y) n.first, c.put_record-next.auto.out)

pub overflow_add-entry : goal.overflow_add-entry
overflow_add-entry c =
    let a = c.args in
    let l = c.loop-from in
    let e = c.part_end-e in
    let n = next a.text.now a.out.now a.start l.from l.p l.entry l.out l.invariant.0 c.loop-from-test.true e.result e.ensures in
    omega (arith, l.invariant.0.room, ap (λ (y : List Op). length y) n.first, l.invariant.0.long, c.well_formed)

pub overflow_add-from : goal.overflow_add-from
overflow_add-from c =
    let a = c.args in
    let l = c.loop-from in
    let e = c.part_end-e in
    let n = next a.text.now a.out.now a.start l.from l.p l.entry l.out l.invariant.0 c.loop-from-test.true e.result e.ensures in
    omega (arith, n.inside)

pub loop-from-smaller : goal.loop-from-smaller
loop-from-smaller c =
    let a = c.args in
    let l = c.loop-from in
    let e = c.part_end-e in
    let n = next a.text.now a.out.now a.start l.from l.p l.entry l.out l.invariant.0 c.loop-from-test.true e.result e.ensures in
    omega (arith, n.inside, e.ensures.low)

pub loop-from-preserved : goal.loop-from-preserved
loop-from-preserved c =
    let a = c.args in
    let l = c.loop-from in
    let e = c.part_end-e in
    let n = next a.text.now a.out.now a.start l.from l.p l.entry l.out l.invariant.0 c.loop-from-test.true e.result e.ensures in
    let r = c.read_line-line in
    let f = take (e.result - l.from) (drop l.from a.text.now) in
    let x = line_read f _ _ r.result n.op r.ensures l.invariant.1 (r.auto.serials ∙ l.invariant.1) n.said in
    let w = c.put_record-next in
    let v = c.put_four in
    (fill_on a.text.now a.out.now a.start l.from l.p l.entry l.out l.invariant.0 c.loop-from-test.true e.result e.ensures n _ w.result (same_text l.out l.p _ _ _ _ x.bytes w.ensures) _ v.result v.ensures (v.auto.out ∙ w.auto.out), r.auto.serials ∙ l.invariant.1)

pub shape_of-out : goal.shape_of-out
shape_of-out c = c.loop-from.invariant.0.long

pub returns : goal.returns
returns c =
    let a = c.args in
    let l = c.loop-from in
    filled a.text.now a.out.now a.start l.from l.p l.entry l.out l.invariant.0 c.loop-from-test.false
