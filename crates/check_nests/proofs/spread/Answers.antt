-- Every word that is written is true, in whatever order the slots come. Assumes nothing.
use native.Mathlib.Omega.{arith}
use Rattle.check_nests.proofs.Filling.{nests_set}
use Rattle.check_nests.proofs.Reading.{root_noted}
use Rattle.check_nests.proofs.spread.Goals as goal

pub bounds-t-k : goal.bounds-t-k
bounds-t-k c = c.requires.placed.low

pub loop-init : goal.loop-init
loop-init c =
    let b = c.args.b.now in
    let r = c.requires in
    (r.placed.low, nests_set b c.args.t.now c.args.k _ r.placed.low r.nests (root_noted b r.fit c.args.k r.placed r.k_value))

pub fill-requires : goal.fill-requires
fill-requires c = let rest = c.loop.invariant in record { fit = c.requires.fit; k_bound = rest.0; nests = rest.1 }

pub after-at-requires : goal.after-at-requires
after-at-requires c = c.loop.invariant.0

pub returns-then-at-ge-SLOTS : goal.returns-then-at-ge-SLOTS
returns-then-at-ge-SLOTS c = c.fill.ensures

pub loop-preserved : goal.loop-preserved
loop-preserved c = (omega (arith, c.if-at-ge-SLOTS.false), c.fill.ensures)

pub returns : goal.returns
returns c = c.loop.invariant.1
