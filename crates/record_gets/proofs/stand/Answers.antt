-- Each test says what stands there. Assumes nothing.
use native.Mathlib.Omega.{arith}
use mathlib.Core.Path.{sym, ◌∙◌}
use lib.Seq.{length-take-le}
use borrow.Author.Tests.{not-true, not-false}
use Rattle.record_files.proofs.Slices.{bytes_all}
use Rattle.record_gets.proofs.Finding.{astray, nothing_there, inside_list, ends_elsewhere, stands_there}
use borrow.Author.Rules.{rules}
use Rattle.record_gets.proofs.stand.Goals as goal
use Rattle.record_gets.proofs.stand.Goals.{then-not-begins-via-then-not-begins, then-not-begins-via-else-not-begins+then-m-eq0}

pub slice_bounds-measure-end : goal.slice_bounds-measure-end
slice_bounds-measure-end c = sym (length-take-le _ _ (omega (arith, c.requires.0)))

pub returns-then-not-begins : goal.returns-then-not-begins
returns-then-not-begins c =
    let a = c.args in
    let s = a.s.now in
    let m = c.measure-m in
    let h = bytes_all s c.type_inv.s in
    let f = c.four_at-from in
    let z = c.end_of-to in
    elim c.then-not-begins.branch [
      | then-not-begins-via-then-not-begins w ↦ astray s a.list a.count a.k h c.requires.0 c.requires.1 f.result z.result f.ensures.0 z.ensures
          m.result m.ensures (sym c.begins.ensures ∙ w.if-not-begins.true)
      | then-not-begins-via-else-not-begins+then-m-eq0 w ↦ nothing_there s a.list a.count a.k h c.requires.0 c.requires.1 f.result z.result f.ensures.0 z.ensures
          m.result m.ensures (sym c.begins.ensures ∙ w.if-not-begins.false) w.if-m-eq0.true
    ]

pub overflow_add-from : goal.overflow_add-from
overflow_add-from c =
    let a = c.args in
    let s = a.s.now in
    let m = c.measure-m in
    let h = bytes_all s c.type_inv.s in
    omega (arith, c.requires.0, c.well_formed, inside_list s a.list a.count a.k h c.requires.0 c.requires.1 c.four_at-from.result c.end_of-to.result c.four_at-from.ensures.0 c.end_of-to.ensures m.result m.ensures (sym c.begins.ensures ∙ c.if-not-begins.false) c.if-m-eq0.false)

pub returns-then-from-m : goal.returns-then-from-m
returns-then-from-m c =
    let a = c.args in
    let s = a.s.now in
    let h = bytes_all s c.type_inv.s in
    ends_elsewhere s a.list a.count a.k h c.requires.0 c.requires.1 c.four_at-from.result c.end_of-to.result c.four_at-from.ensures.0 c.end_of-to.ensures c.measure-m.result c.measure-m.ensures (sym c.begins.ensures ∙ c.if-not-begins.false) c.if-m-eq0.false c.if-from-m.true

pub returns : goal.returns
returns c =
    let a = c.args in
    let s = a.s.now in
    let h = bytes_all s c.type_inv.s in
    stands_there s a.list a.count a.k h c.requires.0 c.requires.1 c.four_at-from.result c.end_of-to.result c.four_at-from.ensures.0 c.end_of-to.ensures c.measure-m.result c.measure-m.ensures (sym c.begins.ensures ∙ c.if-not-begins.false) c.if-m-eq0.false c.if-from-m.false
