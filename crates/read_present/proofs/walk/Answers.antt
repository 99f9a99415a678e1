-- At each turn the next node of the whole is that of the slots that are left; the first met ends it. Assumes nothing.
use Rattle.std.specs.Prelude.{None, Option, Some}
use Prim.Native.Nat.{ℕ, ◌-◌, ◌≤◌}
use mathlib.Core.Bool.{Bool}
use mathlib.Core.Path.{◌≡◌, refl, ap, sym, ◌∙◌}
use native.Mathlib.Omega.{arith}
use Rattle.slot_map.specs.Slots.{first_from}
use Rattle.bench_orders.proofs.Counting.{unit_low, used_small}
use Rattle.bench_orders.proofs.Listed.{listed_long, listed_at}
use Rattle.read_present.proofs.Walking.{go_on, go_met, go_ends}
use Rattle.read_present.proofs.walk.Goals as goal

-- what an interface was asked: its first node from the rest of the index on
asked : (held : ℕ → Bool) (k n : ℕ) {x y : Option ℕ} {r : ℕ} → y ≡ x → y ≡ first_from held r (64 - r) → r ≡ k - n
    → x ≡ first_from held (k - n) (64 - (k - n))
asked held k n q e r = sym q ∙ e ∙ ap (λ (m : ℕ). first_from held m (64 - m)) r

pub loop-u-init : goal.loop-u-init
loop-u-init c = record { sum = omega arith; next = refl; small = omega arith }

pub next_in-found-requires : goal.next_in-found-requires
next_in-found-requires c =
    let o = c.order_of-o in
    let u = listed_at o.ensures c.loop-u-test.true in
    let F = c.requires.fit in
    record { fit = F; u_bound = unit_low c.args.b.now F c.args.unit c.requires.unit_bound o.result o.ensures c.loop-u.u-index _ u.0 u.1 }

pub reached-requires : goal.reached-requires
reached-requires c =
    let F = c.requires.fit in
    let lu = c.requires.unit_bound in
    let o = c.order_of-o in
    let l = c.loop-u in
    let u = listed_at o.ensures c.loop-u-test.true in
    let t = c.in-Some.s in
    let q : c.next_in-found.result ≡ Some t = cc in
    let a = asked _ c.args.index l.passed q c.next_in-found.ensures c.rest.ensures in
    let m = go_met c.args.b.now F c.args.unit lu o.result o.ensures l.u-index _ u.0 u.1 c.args.index l.passed l.invariant t a in
    (unit_low c.args.b.now F c.args.unit lu o.result o.ensures l.u-index _ u.0 u.1, m.0, omega (arith, l.invariant.small, u.0, o.ensures.few))

pub returns-in-Some : goal.returns-in-Some
returns-in-Some c =
    let o = c.order_of-o in
    let l = c.loop-u in
    let u = listed_at o.ensures c.loop-u-test.true in
    let t = c.in-Some.s in
    let q : c.next_in-found.result ≡ Some t = cc in
    let a = asked _ c.args.index l.passed q c.next_in-found.ensures c.rest.ensures in
    let m = go_met c.args.b.now c.requires.fit c.args.unit c.requires.unit_bound o.result o.ensures l.u-index _ u.0 u.1 c.args.index l.passed l.invariant t a in
    c.reached.ensures ∙ m.1

pub load_interface-f-requires : goal.load_interface-f-requires
load_interface-f-requires c =
    let o = c.order_of-o in
    let u = listed_at o.ensures c.loop-u-test.true in
    unit_low c.args.b.now c.requires.fit c.args.unit c.requires.unit_bound o.result o.ensures c.loop-u.u-index _ u.0 u.1

pub overflow_add-passed : goal.overflow_add-passed
overflow_add-passed c =
    let o = c.order_of-o in
    let l = c.loop-u in
    let f = c.load_interface-f in
    let u = listed_at o.ensures c.loop-u-test.true in
    let n = used_small c.args.b.now c.requires.fit c.args.unit c.requires.unit_bound o.result o.ensures l.u-index _ u.0 u.1 f.result f.ensures in
    omega (arith, n, l.invariant.small, u.0, o.ensures.few)

pub loop-u-preserved : goal.loop-u-preserved
loop-u-preserved c =
    let F = c.requires.fit in
    let o = c.order_of-o in
    let l = c.loop-u in
    let f = c.load_interface-f in
    let u = listed_at o.ensures c.loop-u-test.true in
    let q : c.next_in-found.result ≡ None = cc in
    let a = asked _ c.args.index l.passed q c.next_in-found.ensures c.rest.ensures in
    go_on c.args.b.now F c.args.unit c.requires.unit_bound o.result o.ensures l.u-index _ u.0 u.1 c.args.index l.passed l.invariant f.result f.ensures a

pub returns : goal.returns
returns c =
    let F = c.requires.fit in
    let o = c.order_of-o in
    let l = c.loop-u in
    let p = c.past-number in
    let last : o.result.count ≤ l.u-index = omega (arith, listed_long o.ensures) in
    go_ends c.args.b.now F c.args.unit c.requires.unit_bound o.result o.ensures l.u-index c.args.index l.passed last l.invariant p.result p.ensures
