-- `coming` goes by the tests of the definition. Assumes nothing.
use native.Mathlib.Omega.{arith}
use borrow.Author.Rules.{rules}
use borrow.Author.Tests.{not-true, not-false}
use Rattle.group_lent_room.proofs.Words.{goes_free, is_within, goes_plain, goes_first, goes_same, goes_join}
use Rattle.group_lent_room.proofs.coming.Goals as goal

pub returns-then-not-is_held : goal.returns-then-not-is_held
returns-then-not-is_held c = goes_free c.args.w.now c.args.f c.args.v _ c.place_of-p.ensures _ c.is_held.ensures (c.if-not-is_held.true)

pub returns-then-f-eq5 : goal.returns-then-f-eq5
returns-then-f-eq5 c = goes_plain c.args.w.now c.args.f c.args.v _ c.place_of-p.ensures _ c.is_held.ensures (c.if-not-is_held.false) c.if-f-eq5.true

pub overflow_mul-at : goal.overflow_mul-at
overflow_mul-at c = omega (arith, is_within c.args.w.now c.args.f c.args.v _ c.place_of-p.ensures _ c.is_held.ensures (c.if-not-is_held.false), c.requires.fewer)

pub overflow_add-at : goal.overflow_add-at
overflow_add-at c = omega (arith, is_within c.args.w.now c.args.f c.args.v _ c.place_of-p.ensures _ c.is_held.ensures (c.if-not-is_held.false), c.requires.fewer)

pub overflow_add-at-2 : goal.overflow_add-at-2
overflow_add-at-2 c = omega (arith, is_within c.args.w.now c.args.f c.args.v _ c.place_of-p.ensures _ c.is_held.ensures (c.if-not-is_held.false), c.requires.fewer)

pub offset_bounds-w-at : goal.offset_bounds-w-at
offset_bounds-w-at c = omega (arith, is_within c.args.w.now c.args.f c.args.v _ c.place_of-p.ensures _ c.is_held.ensures (c.if-not-is_held.false), c.requires.fewer)

pub bounds-w-at : goal.bounds-w-at
bounds-w-at c = omega (arith, is_within c.args.w.now c.args.f c.args.v _ c.place_of-p.ensures _ c.is_held.ensures (c.if-not-is_held.false), c.requires.fewer)

pub returns-then-w-at-eq5 : goal.returns-then-w-at-eq5
returns-then-w-at-eq5 c =
    goes_first c.args.w.now c.args.f c.args.v _ c.place_of-p.ensures _ c.is_held.ensures (c.if-not-is_held.false) c.if-f-eq5.false c.if-w-at-eq5.true

pub overflow_add-at-3 : goal.overflow_add-at-3
overflow_add-at-3 c =
    omega (arith, is_within c.args.w.now c.args.f c.args.v _ c.place_of-p.ensures _ c.is_held.ensures (c.if-not-is_held.false), c.requires.fewer)

pub offset_bounds-w-at-2 : goal.offset_bounds-w-at-2
offset_bounds-w-at-2 c =
    omega (arith, is_within c.args.w.now c.args.f c.args.v _ c.place_of-p.ensures _ c.is_held.ensures (c.if-not-is_held.false), c.requires.fewer)

pub bounds-w-at-2 : goal.bounds-w-at-2
bounds-w-at-2 c =
    omega (arith, is_within c.args.w.now c.args.f c.args.v _ c.place_of-p.ensures _ c.is_held.ensures (c.if-not-is_held.false), c.requires.fewer)

pub returns-then-same_node : goal.returns-then-same_node
returns-then-same_node c =
    goes_same c.args.w.now c.args.f c.args.v _ c.place_of-p.ensures _ c.is_held.ensures (c.if-not-is_held.false) c.if-f-eq5.false c.if-w-at-eq5.false _ c.same_node.ensures c.if-same_node.true

pub returns : goal.returns
returns c =
    goes_join c.args.w.now c.args.f c.args.v _ c.place_of-p.ensures _ c.is_held.ensures (c.if-not-is_held.false) c.if-f-eq5.false c.if-w-at-eq5.false _ c.same_node.ensures c.if-same_node.false
