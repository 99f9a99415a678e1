-- A defect writes its own vertex; a blossom's members, whose serials are lower, write theirs one after the other. Assumes nothing.
use Rattle.std.proofs.Common.{◌≡◌, ◌<◌, ◌+◌, ◌-◌, length, arith, ap}
use Rattle.bench_words.specs.declared.Node.{Node}
use Rattle.bench_vertices.proofs.Circling.{one_vertex, wrote_one, going_starts, going_on, going_ends, next_placed, next_older, next_room}
use Rattle.bench_vertices.proofs.+all_vertices.Goals as goal

pub bounds-out-at : goal.bounds-out-at
bounds-out-at t c =
    let n = c.load_node-n in
    omega (arith, c.requires.k_in_bounds, ap length (one_vertex c.args.b.now c.requires.fit c.args.k c.requires.placed n.result n.ensures c.in-Defect.v c.in-Defect.is))

pub loop-init : goal.loop-init
loop-init t c =
    let n = c.load_node-n in
    let whole : n.result.count - 0 ≡ n.result.count = omega arith in
    rw whole (going_starts c.args.b.now c.requires.fit c.args.k c.requires.placed n.result n.ensures c.in-Blossom.is c.args.at c.args.out.now)

pub all_vertices-i-requires : goal.all_vertices-i-requires
all_vertices-i-requires t c =
    let l = c.loop in
    let count = c.load_node-n.result.count in
    let more : 0 < count - l.counter = omega (arith, c.loop-test.true) in
    let f = next_older c.args.b.now c.requires.fit c.args.k c.requires.placed c.args.at c.args.out.now l.i l.p (count - l.counter) l.out l.invariant more in (
      omega (arith, f, c.decreases),
      (
        c.requires.fit,
        (
          next_placed c.args.b.now c.requires.fit c.args.k c.requires.placed c.args.at c.args.out.now l.i l.p (count - l.counter) l.out l.invariant more,
          next_room c.args.b.now c.requires.fit c.args.k c.requires.placed c.args.at c.args.out.now l.i l.p (count - l.counter) l.out l.invariant more c.requires.k_in_bounds,
        ),
      ),
    )

pub load_node-x-requires : goal.load_node-x-requires
load_node-x-requires t c =
    let l = c.loop in
    let count = c.load_node-n.result.count in
    let more : 0 < count - l.counter = omega (arith, c.loop-test.true) in
    (next_placed c.args.b.now c.requires.fit c.args.k c.requires.placed c.args.at c.args.out.now l.i l.p (count - l.counter) l.out l.invariant more).low

pub loop-preserved : goal.loop-preserved
loop-preserved t c =
    let l = c.loop in
    let count = c.load_node-n.result.count in
    let more : 0 < count - l.counter = omega (arith, c.loop-test.true) in
    going_on c.args.b.now c.requires.fit c.args.k c.requires.placed c.args.at c.args.out.now l.i l.p (count - l.counter) l.out l.invariant more
    c.all_vertices-i.new.out c.all_vertices-i.result c.load_node-x.result.next (count - (l.counter + 1))
    c.all_vertices-i.ensures (ap (λ (x : Node). x.next) c.load_node-x.ensures) (omega arith)

pub returns-in-Defect : goal.returns-in-Defect
returns-in-Defect t c =
    let n = c.load_node-n in
    wrote_one c.args.b.now c.requires.fit c.args.k c.requires.placed n.result n.ensures c.in-Defect.v c.in-Defect.is c.args.at c.args.out.now

pub returns-after-loop : goal.returns-after-loop
returns-after-loop t c =
    let l = c.loop in
    let count = c.load_node-n.result.count in
    going_ends c.args.b.now c.requires.fit c.args.k c.requires.placed c.args.at c.args.out.now l.i l.p (count - l.counter)
    l.out l.invariant (omega (arith, c.loop-test.false))
