-- At each turn the slots from k on have their indices. Assumes nothing.
use Prim.Native.Nat.{ℕ, ◌-◌, ◌≤◌}
use mathlib.Core.Path.{◌≡◌, subst}
use native.Mathlib.Omega.{arith}
use Rattle.picture_indices.proofs.Listing.{Listing, listing_starts, back_low, listing_back, listing_ends}
use borrow.Author.Rules.{rules}
use Rattle.picture_indices.proofs.indices.Goals as goal

pub loop-k-init : goal.loop-k-init
loop-k-init c = (omega arith, listing_starts c.args.b.now c.args.unit c.args.places.now c.args.count c.requires)

pub offset_bounds-index-p : goal.offset_bounds-index-p
offset_bounds-index-p c =
    let p = back_low c.args.b.now c.args.unit c.args.places.now c.args.count c.requires c.loop-k.k c.loop-k-test.true c.loop-k.invariant.0 in
    record { fits = omega arith }

pub bounds-index-p : goal.bounds-index-p
bounds-index-p c = back_low c.args.b.now c.args.unit c.args.places.now c.args.count c.requires c.loop-k.k c.loop-k-test.true c.loop-k.invariant.0

pub loop-k-preserved : goal.loop-k-preserved
loop-k-preserved c =
    let l = c.loop-k in
    (omega (arith, c.loop-k-test.true, l.invariant.0), listing_back c.args.b.now c.args.unit c.args.places.now c.args.count c.requires l.k l.index c.loop-k-test.true l.invariant.0 l.invariant.1)

pub returns : goal.returns
returns c =
    let l = c.loop-k in
    let e : l.k ≡ 0 = omega (arith, c.loop-k-test.false) in
    listing_ends c.args.b.now c.args.unit c.args.places.now c.args.count c.requires l.index (subst (λ (x : ℕ). Listing c.args.b.now c.args.unit x l.index) e l.invariant.1)
