-- At each turn the walk along the slots left is the whole walk. Assumes nothing.
use Prim.Native.Nat.{◌<◌}
use mathlib.Core.Path.{◌≡◌}
use lib.ListN.{get_or, take}
use native.Mathlib.Omega.{arith}
use Rattle.bench_orders.proofs.Listed.{front_long, front_at}
use Rattle.check_walks.proofs.Walking.{walking_starts, walking_ends, walking_found, walking_on}
use Rattle.check_walks.proofs.walk.Goals as goal
use Rattle.check_walks.proofs.walk.Goals.{In-loop-k}

pub loop-k-init : goal.loop-k-init
loop-k-init c = (walking_starts c.args.b.now c.args.unit c.args.strict, c.requires.nests)

-- a place is one of those that are listed
listed : (c : In-loop-k)
    → (c.loop-k.k < c.args.count) × (get_or (take c.args.count c.args.places.now) c.loop-k.k 0 ≡ get_or c.args.places.now c.loop-k.k 0)
listed c = front_at c.args.places.now c.args.count (omega (arith, c.requires.places.few, c.requires.places.long)) c.loop-k-test.true

pub look-s-requires : goal.look-s-requires
look-s-requires c =
    let r = c.requires in
    let l = c.loop-k in
    let k = listed (goal.at.look-s-requires c).In-loop-k in
    let w = l.invariant.0 in
    record {
      fit = r.fit;
      unit_bound = r.unit_bound;
      unit_value = r.unit_value;
      at_index = rw k.1 (r.places.at l.k k.0);
      k_bound = (omega (arith, k.0, r.places.few), w.few);
      keeps = w.keeps;
      nests = l.invariant.1;
    }

pub returns-then-s-ne0 : goal.returns-then-s-ne0
returns-then-s-ne0 c =
    let r = c.look-s in
    let l = c.loop-k in
    let k = (listed (goal.at.returns-then-s-ne0 c).In-loop-k).0 in
    let a = c.args in
    let P = c.requires.places in
    (walking_found a.b.now a.unit a.strict a.places.now a.count P l.k l.n l.met l.invariant.0 k r.new.met r.result r.ensures.0 c.if-s-ne0.true, r.ensures.1)

pub loop-k-preserved : goal.loop-k-preserved
loop-k-preserved c =
    let r = c.look-s in
    let l = c.loop-k in
    let k = (listed (goal.at.loop-k-preserved c).In-loop-k).0 in
    let a = c.args in
    let P = c.requires.places in
    (walking_on a.b.now a.unit a.strict a.places.now a.count P l.k l.n l.met l.invariant.0 k r.new.met r.result r.ensures.0 c.if-s-ne0.false, r.ensures.1)

pub returns : goal.returns
returns c =
    let l = c.loop-k in
    let a = c.args in
    let P = c.requires.places in
    let all = front_long a.places.now a.count (omega (arith, P.few, P.long)) in
    (walking_ends a.b.now a.unit a.strict a.places.now a.count P l.k l.n l.met l.invariant.0 (omega (arith, all)), l.invariant.1)
