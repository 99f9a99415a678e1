-- At each turn what is left of the list comes after what is put. Assumes nothing.
use Prim.Native.Nat.{◌+◌, ◌-◌}
use native.Mathlib.Omega.{arith}
use mathlib.Core.Path.{◌≡◌, ap, ◌∙◌}
use Rattle.bench_words.specs.declared.Node.{Node}
use Rattle.picture_circles.proofs.Going.{going_starts, next_placed, going_on, going_ends}
use Rattle.picture_circles.proofs.put_circle.Goals as goal

pub load_node-n-requires : goal.load_node-n-requires
load_node-n-requires c = c.requires.placed.low

pub loop-init : goal.loop-init
loop-init c =
    let n = c.load_node-n.result in
    let z : n.count - 0 ≡ n.count = omega arith in
    rw z (going_starts c.args.b.now c.args.unit c.args.k c.args.touching c.put-r.new.out c.put-r.result n c.load_node-n.ensures)

pub put_member-r-requires : goal.put_member-r-requires
put_member-r-requires c = record {
  indices = c.requires.indices;
  q_bound = (next_placed _ _ _ _ _ _ _ _ _ _ _ c.loop.invariant c.requires.fit c.requires.placed c.requires.k_value (omega (arith, c.loop-test.true))).low;
}

pub load_node-x-requires : goal.load_node-x-requires
load_node-x-requires c =
    (next_placed _ _ _ _ _ _ _ _ _ _ _ c.loop.invariant c.requires.fit c.requires.placed c.requires.k_value (omega (arith, c.loop-test.true))).low

pub loop-preserved : goal.loop-preserved
loop-preserved c =
    let n = c.load_node-n.result.count in
    let z : n - (c.loop.counter + 1) ≡ n - c.loop.counter - 1 = omega arith in
    rw z (going_on _ _ _ _ _ _ _ _ _ _ _ c.loop.invariant (omega (arith, c.loop-test.true)) _ _ _ _
    c.put_comma-s.ensures c.put_member-r.ensures c.load_node-x.result.next (ap (λ (x : Node). x.next) c.load_node-x.ensures))

pub shape_of-out : goal.shape_of-out
shape_of-out c = c.put.ensures.long ∙ (c.loop.invariant.text.drawn.long ∙ c.put-r.ensures.long)

pub returns : goal.returns
returns c =
    going_ends _ _ _ _ _ _ _ _ _ _ _ c.loop.invariant (omega (arith, c.loop-test.false)) c.args.out.now c.args.at c.put-r.ensures c.put.new.out c.put.result c.put.ensures
