-- The circle's own outermost blossom is every member's; the members are checked one after the other. Assumes nothing.
use Prim.Native.Nat.{◌+◌, ◌-◌, ◌<◌}
use mathlib.Core.Path.{◌≡◌, refl, ap}
use native.Mathlib.Omega.{arith}
use Rattle.bench_words.specs.declared.Node.{Node}
use Rattle.ledger_spec.specs.Named.{handle_named}
use Rattle.bench_vertices.specs.Under.{Placed}
use Rattle.check_circles.proofs.Circling.{going_starts, going_ends, next_placed, next_outer, going_on, going_found}
use Rattle.check_circles.proofs.circle_verdict.Goals as goal
use Rattle.check_circles.proofs.circle_verdict.Goals.{In-loop}

pub load_node-n-requires : goal.load_node-n-requires
load_node-n-requires c = c.requires.placed.low

pub outer-outer-requires : goal.outer-outer-requires
outer-outer-requires c = record { fit = c.requires.fit; placed = c.requires.placed; nests = c.requires.nests }

pub loop-init : goal.loop-init
loop-init c =
    let n = c.load_node-n in
    let all : n.result.count - 0 ≡ n.result.count = omega arith in
    rw all (going_starts c.args.b.now c.args.k c.args.strict n.result n.ensures)

-- the next member
placed : (c : In-loop) → Placed c.args.b.now c.loop.p
placed c =
    let r = c.requires in
    next_placed c.args.b.now r.fit c.args.k r.placed r.k_value c.args.strict c.loop.p _ c.loop.invariant (omega (arith, c.loop-test.true))

pub member_verdict-verdict-requires : goal.member_verdict-verdict-requires
member_verdict-verdict-requires c =
    let b = c.args.b.now in
    let r = c.requires in
    let l = c.loop in
    let o = c.outer-outer in
    let some : 0 < c.load_node-n.result.count - l.counter = omega (arith, c.loop-test.true) in
    record {
      fit = r.fit;
      nests = r.nests;
      placed = placed (goal.at.member_verdict-verdict-requires c).In-loop;
      outer_value = next_outer b r.fit c.args.k r.placed r.k_value c.args.strict l.p _ l.invariant some (handle_named o.result) o.ensures.0;
    }

pub handle_at-node-requires : goal.handle_at-node-requires
handle_at-node-requires c = (placed (goal.at.handle_at-node-requires c).In-loop).low

pub returns-then-verdict-ne0 : goal.returns-then-verdict-ne0
returns-then-verdict-ne0 c =
    let r = c.requires in
    let l = c.loop in
    let v = c.member_verdict-verdict in
    let h = c.handle_at-node in
    let some : 0 < c.load_node-n.result.count - l.counter = omega (arith, c.loop-test.true) in
    going_found c.args.b.now r.fit c.args.k r.placed r.k_value c.args.strict l.p _ l.invariant some
    (record { verdict = v.result; node = h.result }) v.ensures c.if-verdict-ne0.true h.ensures

pub load_node-x-requires : goal.load_node-x-requires
load_node-x-requires c = (placed (goal.at.load_node-x-requires c).In-loop).low

pub loop-preserved : goal.loop-preserved
loop-preserved c =
    let r = c.requires in
    let l = c.loop in
    let v = c.member_verdict-verdict in
    let x = c.load_node-x in
    let n = c.load_node-n.result.count in
    let some : 0 < n - l.counter = omega (arith, c.loop-test.true) in
    let fewer : n - (l.counter + 1) ≡ n - l.counter - 1 = omega arith in
    rw fewer
    (going_on c.args.b.now r.fit c.args.k r.placed r.k_value c.args.strict l.p _ l.invariant some
    v.result x.result.next v.ensures c.if-verdict-ne0.false (ap (λ (y : Node). y.next) x.ensures))

pub returns : goal.returns
returns c =
    let r = c.requires in
    let l = c.loop in
    let none : c.load_node-n.result.count - l.counter ≡ 0 = omega (arith, c.loop-test.false) in
    going_ends c.args.b.now r.fit c.args.k r.placed r.k_value c.args.strict l.p _ l.invariant none
    (record { verdict = 0; node = c.nobody.result }) refl c.nobody.ensures
