-- What is weighed and what is left make the whole (`Weighing`); one member less is left at each turn. Assumes nothing.
use native.Mathlib.Omega.{arith}
use Prim.Native.Nat.{ℕ, ◌+◌, ◌-◌, ◌*◌}
use mathlib.Core.Path.{◌≡◌, ◌∙◌, sym, ap}
use mathlib.Core.Bool.{Bool, ◌&&◌}
use borrow.Author.Rules.{rules}
use Rattle.record_measures.specs.Measures.{members_at, tried_members}
use Rattle.record_measures.proofs.Measuring.{line-B}
use Rattle.record_measures.proofs.Members.{Weighing, weighing, weigh_on, weigh_bad, weighed, members_many, none_tried, bad_tried, long_tried, good_tried}
use Rattle.record_measures.proofs.blossoms.members.Goals as goal
use Rattle.record_measures.proofs.blossoms.members.Goals.{then-own, else-own}

pub returns-then-count-eq0 : goal.returns-then-count-eq0
returns-then-count-eq0 c =
    let a = c.args in
    c.nothing.ensures ∙ none_tried a.unit a.t.now a.q ∙ ap (λ (n : ℕ). tried_members a.unit (members_at n a.t.now a.q)) (sym c.if-count-eq0.true)

pub loop-i-init : goal.loop-i-init
loop-i-init c =
    let e : c.args.q + 12 * 0 ≡ c.args.q = omega arith in
    let f : c.args.count - 0 ≡ c.args.count = omega arith in
    rw (e, f) (weighing c.args.t.now c.args.count c.args.q)

pub returns-then-m-eq0 : goal.returns-then-m-eq0
returns-then-m-eq0 c =
    let a = c.args in
    let l = c.loop-i in
    c.nothing-then-m-eq0.ensures
    ∙ bad_tried a.unit (members_at a.count a.t.now a.q)
    (weigh_bad a.t.now a.count a.q (a.q + 12 * l.i) l.line l.own (a.count - l.i) c.weigh_member-m.result l.invariant (omega arith)
    c.weigh_member-m.ensures.0 c.if-m-eq0.true)

pub loop-i-preserved : goal.loop-i-preserved
loop-i-preserved c =
    let a = c.args in
    let l = c.loop-i in
    let w = c.weigh_member-m in
    let o : c.if-own.own ≡ l.own && w.result.own = elim c.if-own.branch [
      | then-own v ↦ v.own-is ∙ ap (λ (b : Bool). b && w.result.own) (sym v.if-own.true)
      | else-own v ↦ v.own-is ∙ v.if-own.false ∙ ap (λ (b : Bool). b && w.result.own) (sym v.if-own.false)
    ] in
    let e : a.q + 12 * (l.i + 1) ≡ a.q + 12 * l.i + 12 = omega arith in
    let f : a.count - (l.i + 1) ≡ a.count - l.i - 1 = omega arith in
    rw (e, f) (weigh_on a.t.now a.count a.q (a.q + 12 * l.i) l.line l.own (a.count - l.i) w.result _ l.invariant (omega arith)
    w.ensures.0 w.ensures.1 c.if-m-eq0.false o)

pub returns-then-bytes-gt-MOST : goal.returns-then-bytes-gt-MOST
returns-then-bytes-gt-MOST c =
    let a = c.args in
    let l = c.loop-i in
    let w = weighed a.t.now a.count a.q (a.q + 12 * l.i) (a.count - l.i) l.line l.own l.invariant (omega arith) in
    let ms = members_at a.count a.t.now a.q in
    c.nothing-then-bytes-gt-MOST.ensures ∙ long_tried a.unit ms (omega (arith, line-B a.unit ms, w.text, c.digits-u.ensures.0, c.if-bytes-gt-MOST.true))

pub returns : goal.returns
returns c =
    let a = c.args in
    let l = c.loop-i in
    let w = weighed a.t.now a.count a.q (a.q + 12 * l.i) (a.count - l.i) l.line l.own l.invariant (omega arith) in
    let ms = members_at a.count a.t.now a.q in
    let k = members_many a.count a.t.now a.q in
    good_tried a.unit ms (omega (arith, k, c.if-count-eq0.false)) w.fine (omega (arith, line-B a.unit ms, w.text, c.digits-u.ensures.0, c.if-bytes-gt-MOST.false)) _ _ _ (omega (arith, k)) (omega (arith, line-B a.unit ms, w.text, c.digits-u.ensures.0)) w.owns
