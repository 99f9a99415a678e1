-- What is weighed and what is left make the whole (`Weighing`); each line ends further on. Assumes nothing.
use native.Mathlib.Omega.{arith}
use Prim.Native.Nat.{◌-◌, ◌<◌}
use mathlib.Core.Path.{◌≡◌, ◌∙◌}
use borrow.Author.Rules.{rules}
use lib.ListN.{length, take, drop}
use Rattle.record_weights.proofs.Sizes.{read_small, read_none, read_some}
use Rattle.record_weights.proofs.Weighing.{Weighing, weighing, unended, bad_line, too_large, weigh_on, weighed}
use Rattle.record_weights.proofs.weigh.Goals as goal

pub loop-start-init : goal.loop-start-init
loop-start-init c = (weighing c.args.text.now, search rules)

pub part_end-e-requires : goal.part_end-e-requires
part_end-e-requires c = c.loop-start.invariant.0.low

pub returns-then-e-text : goal.returns-then-e-text
returns-then-e-text c =
    let l = c.loop-start in
    let g = c.part_end-e in
    c.not_text.ensures ∙ unended c.args.text.now l.start l.count l.size l.invariant.0 g.result g.ensures c.loop-start-test.true c.if-e-text.true

pub slice_bounds-read_line-count : goal.slice_bounds-read_line-count
slice_bounds-read_line-count c = omega (arith, c.part_end-e.ensures.low)

pub record_size-n-requires : goal.record_size-n-requires
record_size-n-requires c =
    let s = c.args.text.now in
    let l = c.loop-start in
    let g = c.part_end-e in
    let h : g.result < length s = omega (arith, g.ensures.high, c.if-e-text.false) in
    let f = take (g.result - l.start) (drop l.start s) in
    let r = c.read_line-line in
    read_small f r.result r.ensures.line

pub returns-then-n-eq0 : goal.returns-then-n-eq0
returns-then-n-eq0 c =
    let s = c.args.text.now in
    let l = c.loop-start in
    let g = c.part_end-e in
    let h : g.result < length s = omega (arith, g.ensures.high, c.if-e-text.false) in
    let f = take (g.result - l.start) (drop l.start s) in
    let r = c.read_line-line in
    let z = c.record_size-n in
    c.not_text-then-n-eq0.ensures ∙ bad_line s l.start l.count l.size l.invariant.0 g.result g.ensures h (read_none f r.result r.ensures.line z.result z.ensures c.if-n-eq0.true)

pub overflow_add-size : goal.overflow_add-size
overflow_add-size c =
    let s = c.args.text.now in
    let l = c.loop-start in
    let g = c.part_end-e in
    let h : g.result < length s = omega (arith, g.ensures.high, c.if-e-text.false) in
    let f = take (g.result - l.start) (drop l.start s) in
    let r = c.read_line-line in
    let z = c.record_size-n in
    omega (arith, l.invariant.0.small, z.ensures, read_small f r.result r.ensures.line)

pub overflow_add-count : goal.overflow_add-count
overflow_add-count c =
    let s = c.args.text.now in
    let l = c.loop-start in
    let g = c.part_end-e in
    let h : g.result < length s = omega (arith, g.ensures.high, c.if-e-text.false) in
    let f = take (g.result - l.start) (drop l.start s) in
    let r = c.read_line-line in
    let z = c.record_size-n in
    omega (arith, l.invariant.0.small, z.ensures, read_small f r.result r.ensures.line)

pub overflow_mul-count : goal.overflow_mul-count
overflow_mul-count c =
    let s = c.args.text.now in
    let l = c.loop-start in
    let g = c.part_end-e in
    let h : g.result < length s = omega (arith, g.ensures.high, c.if-e-text.false) in
    let f = take (g.result - l.start) (drop l.start s) in
    let r = c.read_line-line in
    let z = c.record_size-n in
    omega (arith, l.invariant.0.small, z.ensures, read_small f r.result r.ensures.line)

pub overflow_add-count-in-loop-start : goal.overflow_add-count-in-loop-start
overflow_add-count-in-loop-start c =
    let s = c.args.text.now in
    let l = c.loop-start in
    let g = c.part_end-e in
    let h : g.result < length s = omega (arith, g.ensures.high, c.if-e-text.false) in
    let f = take (g.result - l.start) (drop l.start s) in
    let r = c.read_line-line in
    let z = c.record_size-n in
    omega (arith, l.invariant.0.small, z.ensures, read_small f r.result r.ensures.line)

pub overflow_add-size-in-loop-start : goal.overflow_add-size-in-loop-start
overflow_add-size-in-loop-start c =
    let s = c.args.text.now in
    let l = c.loop-start in
    let g = c.part_end-e in
    let h : g.result < length s = omega (arith, g.ensures.high, c.if-e-text.false) in
    let f = take (g.result - l.start) (drop l.start s) in
    let r = c.read_line-line in
    let z = c.record_size-n in
    omega (arith, l.invariant.0.small, z.ensures, read_small f r.result r.ensures.line)

pub returns-then-size-count-gt-LARGEST : goal.returns-then-size-count-gt-LARGEST
returns-then-size-count-gt-LARGEST c =
    let s = c.args.text.now in
    let l = c.loop-start in
    let g = c.part_end-e in
    let h : g.result < length s = omega (arith, g.ensures.high, c.if-e-text.false) in
    let f = take (g.result - l.start) (drop l.start s) in
    let r = c.read_line-line in
    let z = c.record_size-n in
    let x = read_some f r.result r.ensures.line z.result z.ensures c.if-n-eq0.false in
    c.not_text-then-size-count-gt-LARGEST.ensures ∙ too_large s l.start l.count l.size l.invariant.0 g.result g.ensures h x.op x.said z.result x.size c.if-size-count-gt-LARGEST.true

pub overflow_add-start : goal.overflow_add-start
overflow_add-start c =
    let s = c.args.text.now in
    let l = c.loop-start in
    let g = c.part_end-e in
    let h : g.result < length s = omega (arith, g.ensures.high, c.if-e-text.false) in
    omega (arith, h)

pub loop-start-smaller : goal.loop-start-smaller
loop-start-smaller c =
    let s = c.args.text.now in
    let l = c.loop-start in
    let g = c.part_end-e in
    let h : g.result < length s = omega (arith, g.ensures.high, c.if-e-text.false) in
    omega (arith, h, g.ensures.low)

pub loop-start-preserved : goal.loop-start-preserved
loop-start-preserved c =
    let s = c.args.text.now in
    let l = c.loop-start in
    let g = c.part_end-e in
    let h : g.result < length s = omega (arith, g.ensures.high, c.if-e-text.false) in
    let f = take (g.result - l.start) (drop l.start s) in
    let r = c.read_line-line in
    let z = c.record_size-n in
    let x = read_some f r.result r.ensures.line z.result z.ensures c.if-n-eq0.false in
    (weigh_on s l.start l.count l.size l.invariant.0 g.result g.ensures h x.op x.said z.result x.size c.if-size-count-gt-LARGEST.false, search rules)

pub returns : goal.returns
returns c =
    let l = c.loop-start in
    weighed c.args.text.now l.start l.count l.size l.invariant.0 c.loop-start-test.false
