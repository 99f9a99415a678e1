-- The interfaces below w are done: those of the tree reset, the others as they were. Assumes nothing.
use Prim.Native.Nat.{◌+◌, ◌<◌}
use mathlib.Core.Path.{◌≡◌, subst}
use native.Mathlib.Omega.{arith}
use Rattle.deed_trees.proofs.Wiping.{Wiping, wipe_low, top_own, wiping_begins, wiping_past, of_tree, wiping_reset}
use Rattle.deed_trees.proofs.Cleared.{wiped}
use Rattle.deed_trees.proofs.wipe.Goals as goal
use Rattle.deed_trees.proofs.wipe.Goals.{then-up-unit, else-up-unit}

pub loop-w-init : goal.loop-w-init
loop-w-init c = wiping_begins c.args.b.now c.args.unit c.requires.0 c.requires.1

pub climb-up-requires : goal.climb-up-requires
climb-up-requires c =
    let low = wipe_low c.args.b.now c.args.unit c.requires.0 c.requires.1 in
    record { unit_bound = omega (arith, low, c.loop-w-test.true); steady = c.loop-w.invariant.steady }

pub reset-requires : goal.reset-requires
reset-requires c =
    let low = wipe_low c.args.b.now c.args.unit c.requires.0 c.requires.1 in
    (omega (arith, low, c.loop-w-test.true), c.loop-w.invariant.steady, c.loop-w.invariant.coded)

pub loop-w-preserved : goal.loop-w-preserved
loop-w-preserved c =
    let l = c.loop-w in
    let up = c.climb-up.ensures in
    let b₀ = c.args.b.now in
    let u = c.args.unit in
    let lw : l.w < u = c.loop-w-test.true in
    let own = of_tree b₀ u c.requires.0 c.requires.1 l.b l.w l.invariant (omega arith) up in
    elim c.if-up-unit.branch [
      | then-up-unit x ↦ rw x.b-is
          (wiping_reset b₀ u c.requires.0 c.requires.1 l.b l.w l.invariant (omega arith) x.reset.new.b (own x.if-up-unit.true) x.reset.ensures)
      | else-up-unit x ↦ rw x.b-is (wiping_past b₀ u c.requires.0 c.requires.1 l.b l.w l.invariant (omega arith) up x.if-up-unit.false)
    ]

pub reset-requires-2 : goal.reset-requires-2
reset-requires-2 c =
    let l = c.loop-w in
    (wipe_low c.args.b.now c.args.unit c.requires.0 c.requires.1, l.invariant.steady, l.invariant.coded)

-- the loop ends at the top itself
pub returns : goal.returns
returns c =
    let l = c.loop-w in
    let b₀ = c.args.b.now in
    let u = c.args.unit in
    let at : l.w ≡ u = omega (arith, l.auto, c.loop-w-test.false) in
    let G : Wiping b₀ u l.b u = subst (Wiping b₀ u l.b) at l.invariant in
    let b₂ = c.reset-2.new.b in
    let own = top_own b₀ u c.requires.0 c.requires.1 in
    wiped b₀ u c.requires.0 b₂ (u + 1) (wiping_reset b₀ u c.requires.0 c.requires.1 l.b u G (omega arith) b₂ own c.reset-2.ensures) (omega arith)
