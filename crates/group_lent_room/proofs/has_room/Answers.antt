-- The counts are those of the ledger's list and stops at each step. Assumes nothing.
use Prim.Native.Nat.{◌≤◌, ◌-◌}
use native.Mathlib.Omega.{arith}
use borrow.Author.Rules.{rules}
use Rattle.ledger_spec.specs.Tests.{is_some}
use Rattle.ledger_spec.specs.Groups.{extended}
use Rattle.group_lent.specs.Place.{group_in}
use Rattle.group_lent_room.proofs.Counting.{Counting, count_full, count_begin, count_end, list_full, stops_full, count_turn}
use Rattle.group_lent_room.proofs.has_room.Goals as goal

pub returns-then-l-gt128 : goal.returns-then-l-gt128
returns-then-l-gt128 c = count_full c.args.w.now c.args.other.now c.requires.listing c.requires.listing_2 c.if-l-gt128.true

pub loop-j-init : goal.loop-j-init
loop-j-init c =
    (omega arith, (c.if-l-gt128.false, (c.requires.listing.fewer, count_begin c.args.w.now c.args.other.now c.requires.listing c.requires.listing_2 c.if-l-gt128.false)))

pub returns-then-l-gt128-2 : goal.returns-then-l-gt128-2
returns-then-l-gt128-2 c =
    list_full c.args.w.now c.args.other.now c.requires.listing c.requires.listing_2 _ c.loop-j.l c.loop-j.s c.loop-j.j c.loop-j.invariant.1.1.1 c.loop-j-test.true _ (rw c.five_at-f.ensures at c.coming-d.ensures) _ _ c.listed_by-l.ensures c.stopped_by-s.ensures c.if-l-gt128-2.true

pub returns-then-s-gt128 : goal.returns-then-s-gt128
returns-then-s-gt128 c =
    stops_full c.args.w.now c.args.other.now c.requires.listing c.requires.listing_2 _ c.loop-j.l c.loop-j.s c.loop-j.j c.loop-j.invariant.1.1.1 c.loop-j-test.true _ (rw c.five_at-f.ensures at c.coming-d.ensures) _ _ c.listed_by-l.ensures c.stopped_by-s.ensures c.if-s-gt128.true

pub loop-j-preserved : goal.loop-j-preserved
loop-j-preserved c = (
  omega arith,
  (
    c.if-l-gt128-2.false,
    (
      c.if-s-gt128.false,
      count_turn c.args.w.now c.args.other.now c.requires.listing c.requires.listing_2 _ c.loop-j.l c.loop-j.s c.loop-j.j c.loop-j.invariant.1.1.1 c.loop-j-test.true _ (rw c.five_at-f.ensures at c.coming-d.ensures) _ _ c.listed_by-l.ensures c.stopped_by-s.ensures c.if-l-gt128-2.false c.if-s-gt128.false,
    ),
  ),
)

pub returns : goal.returns
returns c = count_end c.args.w.now c.args.other.now c.requires.listing c.requires.listing_2 _ c.loop-j.l c.loop-j.s c.loop-j.j c.loop-j.invariant.1.1.1 c.loop-j-test.false
