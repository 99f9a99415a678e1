-- What is scanned and what is left make the whole (`Walking`). Assumes nothing.
use Prim.Native.Nat.{◌+◌, ◌-◌, ◌*◌}
use native.Mathlib.Omega.{arith}
use mathlib.Core.Path.{◌≡◌, ◌∙◌, sym, ap}
use mathlib.Core.Bool.{Bool, ◌&&◌}
use Rattle.record_measures.specs.declared.Measured.{Measured}
use Rattle.record_files.proofs.Slices.{bytes_from}
use Rattle.record_files.proofs.Walking.{walking, stands, stands_not, astray, broken, walk_on, bytes_left, walked}
use Rattle.record_files.proofs.walk.Goals as goal
use Rattle.record_files.proofs.walk.Goals.{then-own, else-own}

pub loop-i-init : goal.loop-i-init
loop-i-init c =
    let a = c.args in
    let e : a.list + 4 * 0 ≡ a.list = omega arith in
    let f : a.count - 0 ≡ a.count = omega arith in
    rw (e, f) (walking a.s.now a.t.now a.list a.count)

pub returns-then-start-p : goal.returns-then-start-p
returns-then-start-p c =
    let a = c.args in
    let l = c.loop-i in
    c.not_file.ensures ∙ astray a.s.now a.t.now a.list a.count l.p (a.list + 4 * l.i) (a.count - l.i) l.text l.own l.invariant (omega arith)
    c.four_at-start.result c.four_at-start.ensures.0 c.if-start-p.true

pub returns-then-m-eq0 : goal.returns-then-m-eq0
returns-then-m-eq0 c =
    let a = c.args in
    let l = c.loop-i in
    let m = c.measure-m in
    c.not_file-then-m-eq0.ensures
    ∙ broken a.s.now a.t.now a.list a.count l.p (a.list + 4 * l.i) (a.count - l.i) l.text l.own l.invariant (omega arith)
    c.four_at-start.result c.four_at-start.ensures.0 c.if-start-p.false (stands_not a.t.now l.p m.result m.ensures c.if-m-eq0.true)

pub overflow_add-p : goal.overflow_add-p
overflow_add-p c =
    let m = c.measure-m in
    let g = stands c.args.t.now c.loop-i.p m.result m.ensures c.loop-i.invariant.low (bytes_from c.args.t.now c.loop-i.p c.type_inv.t) c.if-m-eq0.false in
    omega (arith, g.fits, ap (λ (x : Measured). x.size) g.is)

pub overflow_add-text : goal.overflow_add-text
overflow_add-text c =
    let m = c.measure-m in
    let g = stands c.args.t.now c.loop-i.p m.result m.ensures c.loop-i.invariant.low (bytes_from c.args.t.now c.loop-i.p c.type_inv.t) c.if-m-eq0.false in
    omega (arith, c.loop-i.invariant.short, c.requires.1, g.short, ap (λ (x : Measured). x.line) g.is)

pub loop-i-preserved : goal.loop-i-preserved
loop-i-preserved c =
    let a = c.args in
    let l = c.loop-i in
    let m = c.measure-m in
    let g = stands a.t.now l.p m.result m.ensures l.invariant.low (bytes_from a.t.now l.p c.type_inv.t) c.if-m-eq0.false in
    let o : c.if-own.own ≡ l.own && m.result.own = elim c.if-own.branch [
      | then-own v ↦ v.own-is ∙ ap (λ (b : Bool). b && m.result.own) (sym v.if-own.true)
      | else-own v ↦ v.own-is ∙ v.if-own.false ∙ ap (λ (b : Bool). b && m.result.own) (sym v.if-own.false)
    ] in
    let e : a.list + 4 * (l.i + 1) ≡ a.list + 4 * l.i + 4 = omega arith in
    let f : a.count - (l.i + 1) ≡ a.count - l.i - 1 = omega arith in
    rw (e, f) (walk_on a.s.now a.t.now a.list a.count l.p (a.list + 4 * l.i) (a.count - l.i) l.text l.own l.invariant (omega arith)
    c.four_at-start.result c.four_at-start.ensures.0 c.if-start-p.false m.result _ g o)

pub returns-then-p-t : goal.returns-then-p-t
returns-then-p-t c =
    let a = c.args in
    let l = c.loop-i in
    c.not_file-then-p-t.ensures
    ∙ bytes_left a.s.now a.t.now a.list a.count l.p (a.list + 4 * l.i) (a.count - l.i) l.text l.own l.invariant (omega arith) c.if-p-t.true

pub returns : goal.returns
returns c =
    let a = c.args in
    let l = c.loop-i in
    walked a.s.now a.t.now a.list a.count l.p (a.list + 4 * l.i) (a.count - l.i) l.text l.own l.invariant (omega arith) c.if-p-t.false
