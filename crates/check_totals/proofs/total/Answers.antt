-- At each turn what is added and what the slots left add up to is the whole total. Assumes nothing.
use Prim.Native.Nat.{◌<◌}
use mathlib.Core.Path.{◌≡◌}
use lib.ListN.{get_or, take}
use native.Mathlib.Omega.{arith}
use Rattle.bench_orders.specs.Order.{AtIndex}
use Rattle.bench_orders.proofs.Listed.{front_long, front_at}
use Rattle.check_totals.proofs.Adding.{adding_starts, adding_ends, adding_on}
use Rattle.check_totals.proofs.total.Goals as goal
use Rattle.check_totals.proofs.total.Goals.{In-loop-k}

pub climb-top-requires : goal.climb-top-requires
climb-top-requires c = record { unit_bound = c.requires.unit_bound; steady = c.requires.fit.canon.steady }

pub loop-k-init : goal.loop-k-init
loop-k-init c = adding_starts c.args.b.now c.args.unit c.args.unit c.climb-top.result.total c.climb-top.ensures.total

-- a place is one of those that are listed
listed : (c : In-loop-k)
    → (c.loop-k.k-index < c.args.count) × (get_or (take c.args.count c.args.places.now) c.loop-k.k-index 0 ≡ get_or c.args.places.now c.loop-k.k-index 0)
listed c = front_at c.args.places.now c.args.count (omega (arith, c.requires.places.few, c.requires.places.long)) c.loop-k-test.true

spot : (c : In-loop-k) → AtIndex c.args.b.now c.args.unit c.loop-k.k-index (get_or (take c.args.count c.args.places.now) c.loop-k.k-index 0)
spot c = let k = listed c in rw k.1 (c.requires.places.at c.loop-k.k-index k.0)

pub progress-t-requires : goal.progress-t-requires
progress-t-requires c =
    record { steady = c.requires.fit.canon.steady; u_bound = (spot (goal.at.progress-t-requires c).In-loop-k).low; t_value = c.loop-k.invariant.progress }

pub add-sum-requires : goal.add-sum-requires
add-sum-requires c =
    let k = spot (goal.at.add-sum-requires c).In-loop-k in
    let i = (listed (goal.at.add-sum-requires c).In-loop-k).0 in
    let few = c.requires.places.few in
    let A = c.loop-k.invariant in
    record {
      fit = c.requires.fit;
      k_bound = k.low;
      k_bound_2 = k.used;
      t_value = c.progress-t.ensures;
      le_sum = omega (arith, A.least, i, few);
      sum_bound = omega (arith, A.most, i, few);
    }

pub loop-k-preserved : goal.loop-k-preserved
loop-k-preserved c =
    let a = c.args in
    let l = c.loop-k in
    let t = c.progress-t in
    let s = c.add-sum in
    let k = listed (goal.at.loop-k-preserved c).In-loop-k in
    rw k.1
    (adding_on a.b.now a.unit a.places.now a.count c.requires.places l.k-index l.last l.t l.sum l.invariant k.0
    t.result s.result (rw (← k.1) t.ensures) (rw (← k.1) s.ensures))

pub returns : goal.returns
returns c =
    let a = c.args in
    let l = c.loop-k in
    let P = c.requires.places in
    let all = front_long a.places.now a.count (omega (arith, P.few, P.long)) in
    adding_ends a.b.now a.unit a.places.now a.count P l.k-index l.last l.t l.sum l.invariant (omega (arith, all))
