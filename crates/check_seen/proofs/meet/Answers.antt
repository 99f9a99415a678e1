-- A vertex that is not found where its bits lead was not met, and becomes the entry that they lead to. Assumes nothing.
use Prim.Native.Nat.{◌≤◌}
use mathlib.Core.Path.{◌≡◌}
use mathlib.Core.Bool.{true≢false}
use native.Mathlib.Omega.{arith}
use Rattle.check_seen.proofs.Noting.{noted_is, kept_now}
use Rattle.check_seen.proofs.Looking.{look_starts, look_ends, look_found, look_few, look_falls, look_on}
use Rattle.check_seen.proofs.meet.Goals as goal
use Rattle.check_seen.proofs.meet.Goals.{In-loop-p}

pub loop-p-init : goal.loop-p-init
loop-p-init c = look_starts c.args.t.now c.args.n c.args.v c.requires.keeps

-- an entry that a link leads to is one of the n that were met
few : (c : In-loop-p) → c.loop-p.p ≤ c.args.n
few c = look_few c.args.t.now c.args.n c.args.v c.requires.keeps c.loop-p.cell c.loop-p.rest c.loop-p.p c.loop-p.invariant c.loop-p-test.true

pub overflow_cast-at : goal.overflow_cast-at
overflow_cast-at c = record { fits = omega (arith, few (goal.at.overflow_cast-at c).In-loop-p, c.requires.n_bound) }

pub overflow_mul-at : goal.overflow_mul-at
overflow_mul-at c = record { fits = omega (arith, few (goal.at.overflow_mul-at c).In-loop-p, c.requires.n_bound) }

pub overflow_add-at : goal.overflow_add-at
overflow_add-at c = record { fits = omega (arith, few (goal.at.overflow_add-at c).In-loop-p, c.requires.n_bound) }

pub offset_bounds-t-at : goal.offset_bounds-t-at
offset_bounds-t-at c = record { fits = omega (arith, few (goal.at.offset_bounds-t-at c).In-loop-p, c.requires.n_bound) }

pub bounds-t-at : goal.bounds-t-at
bounds-t-at c = omega (arith, few (goal.at.bounds-t-at c).In-loop-p, c.requires.n_bound)

pub returns-then-t-at : goal.returns-then-t-at
returns-then-t-at c =
    let l = c.loop-p in
    record {
      answer = look_found c.args.t.now c.args.n c.args.v c.requires.keeps l.cell l.rest l.p l.invariant c.loop-p-test.true c.if-t-at.true;
      kept = λ e. absurd (true≢false e);
      noted = λ e. absurd (true≢false e);
    }

pub overflow_add-cell : goal.overflow_add-cell
overflow_add-cell c = record { fits = omega (arith, few (goal.at.overflow_add-cell c).In-loop-p, c.requires.n_bound) }

pub overflow_add-cell-in-loop-p : goal.overflow_add-cell-in-loop-p
overflow_add-cell-in-loop-p c = record { fits = omega (arith, few (goal.at.overflow_add-cell-in-loop-p c).In-loop-p, c.requires.n_bound) }

pub offset_bounds-t-cell-in-loop-p : goal.offset_bounds-t-cell-in-loop-p
offset_bounds-t-cell-in-loop-p c = record { fits = omega (arith, few (goal.at.offset_bounds-t-cell-in-loop-p c).In-loop-p, c.requires.n_bound) }

pub bounds-t-cell-in-loop-p : goal.bounds-t-cell-in-loop-p
bounds-t-cell-in-loop-p c = omega (arith, few (goal.at.bounds-t-cell-in-loop-p c).In-loop-p, c.requires.n_bound)

pub loop-p-smaller : goal.loop-p-smaller
loop-p-smaller c =
    let l = c.loop-p in
    let falls = look_falls c.args.t.now c.args.n c.args.v c.requires.keeps l.cell l.rest l.p l.invariant c.loop-p-test.true in
    omega (arith, falls, l.invariant.low, c.requires.n_bound)

pub loop-p-preserved : goal.loop-p-preserved
loop-p-preserved c =
    let l = c.loop-p in
    look_on c.args.t.now c.args.n c.args.v c.requires.keeps l.cell l.rest l.p l.invariant c.loop-p-test.true c.if-t-at.false

pub offset_bounds-t-cell-2 : goal.offset_bounds-t-cell-2
offset_bounds-t-cell-2 c = record { fits = omega (arith, c.loop-p.invariant.low, c.requires.n_bound) }

pub bounds-t-cell-2 : goal.bounds-t-cell-2
bounds-t-cell-2 c = omega (arith, c.loop-p.invariant.low, c.requires.n_bound)

pub bounds-t-n : goal.bounds-t-n
bounds-t-n c = omega (arith, c.requires.n_bound)

pub returns : goal.returns
returns c =
    let l = c.loop-p in
    let z : l.p ≡ 0 = omega (arith, c.loop-p-test.false) in
    record {
      answer = look_ends c.args.t.now c.args.n c.args.v c.requires.keeps l.cell l.rest l.p l.invariant z;
      kept = λ e. kept_now c.args.t.now c.args.n c.args.v l.cell l.rest l.p c.requires.keeps c.requires.n_bound l.invariant z;
      noted = λ e. noted_is c.args.t.now c.args.n c.args.v l.cell l.rest l.p c.requires.keeps c.requires.n_bound l.invariant z;
    }
