-- At each turn the words are true, and the members left lie behind those that are noted. Assumes nothing.
use Prim.Native.Nat.{ℕ, ◌+◌, ◌-◌, ◌<◌}
use mathlib.Core.Path.{◌≡◌, refl, ap}
use native.Mathlib.Omega.{arith}
use lib.ListN.{get_or}
use Rattle.bench_words.specs.declared.Node.{Node}
use Rattle.check_nests.proofs.Filling.{going_starts, next_placed, next_small, going_on}
use Rattle.check_nests.proofs.fill.Goals as goal

pub returns-then-w-eq0 : goal.returns-then-w-eq0
returns-then-w-eq0 c = c.requires.nests

pub loop-init : goal.loop-init
loop-init c =
    let w : 0 < get_or c.args.t.now c.args.k 0 = omega (arith, c.if-w-eq0.false) in
    let n = c.load_node-n in
    let all : n.result.count - 0 ≡ n.result.count = omega arith in
    rw all (going_starts c.args.b.now c.args.k _ c.args.t.now c.requires.fit c.requires.k_bound c.requires.nests refl w n.result n.ensures)

-- a member is left
more : {n i : ℕ} → i < n → 0 < n - i
more l = omega arith

pub load_node-y-requires : goal.load_node-y-requires
load_node-y-requires c = (next_placed c.loop.invariant (more c.loop-test.true)).low

pub overflow_mul-t : goal.overflow_mul-t
overflow_mul-t c = record { fits = omega (arith, c.loop.invariant.small) }

pub overflow_add-t : goal.overflow_add-t
overflow_add-t c = record { fits = omega (arith, c.loop.invariant.small) }

pub overflow_add-t-in-loop : goal.overflow_add-t-in-loop
overflow_add-t-in-loop c = record { fits = omega (arith, c.loop.invariant.small) }

pub offset_bounds-t-q : goal.offset_bounds-t-q
offset_bounds-t-q c = record { fits = omega (arith, (next_placed c.loop.invariant (more c.loop-test.true)).low) }

pub bounds-t-q : goal.bounds-t-q
bounds-t-q c = (next_placed c.loop.invariant (more c.loop-test.true)).low

pub overflow_add-x : goal.overflow_add-x
overflow_add-x c = record { fits = omega (arith, next_small c.loop.invariant (more c.loop-test.true), ap (λ (y : Node). y.size) c.load_node-y.ensures) }

pub loop-preserved : goal.loop-preserved
loop-preserved c =
    let n = c.load_node-n.result.count in
    let i = c.loop.counter in
    let fewer : n - (i + 1) ≡ n - i - 1 = omega arith in
    rw fewer (going_on c.loop.invariant (more c.loop-test.true) c.load_node-y.result c.load_node-y.ensures)

pub returns : goal.returns
returns c = c.loop.invariant.nests
