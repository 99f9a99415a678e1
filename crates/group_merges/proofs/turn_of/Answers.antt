-- `turn_of` goes by the two vertices, and where they are one by what the two stops come to. Assumes nothing.
use Rattle.std.proofs.Common.{refl, sym}
use Rattle.group_merges.specs.Turns.{meets}
use Rattle.group_merges.proofs.Turning.{by_pass, by_coming, by_meeting, by_full, by_entry}
use Rattle.group_merges.proofs.turn_of.Goals as goal

pub returns-then-y-x : goal.returns-then-y-x
returns-then-y-x c =
    by_pass c.args.x c.args.y c.args.stops c.args.listed c.if-y-x.true

pub returns-then-x-y : goal.returns-then-x-y
returns-then-x-y c =
    by_coming c.args.x c.args.y c.args.stops c.args.listed c.if-y-x.false c.if-x-y.true c.comes_in.ensures

pub returns-then-listed-ge-MOST : goal.returns-then-listed-ge-MOST
returns-then-listed-ge-MOST c =
    by_meeting c.args.x c.args.y c.args.stops c.args.listed c.if-y-x.false c.if-x-y.false (sym c.in-Join.ensures) (by_full c.in-Join.a c.in-Join.b c.args.x c.args.y c.args.listed c.if-listed-ge-MOST.true)

pub returns-in-Keep : goal.returns-in-Keep
unfolding meets
returns-in-Keep c = by_meeting c.args.x c.args.y c.args.stops c.args.listed c.if-y-x.false c.if-x-y.false (sym c.in-Keep.ensures) refl

pub returns-in-Replace : goal.returns-in-Replace
unfolding meets
returns-in-Replace c = by_meeting c.args.x c.args.y c.args.stops c.args.listed c.if-y-x.false c.if-x-y.false (sym c.in-Replace.ensures) refl

pub returns-else-listed-ge-MOST : goal.returns-else-listed-ge-MOST
returns-else-listed-ge-MOST c =
    by_meeting c.args.x c.args.y c.args.stops c.args.listed c.if-y-x.false c.if-x-y.false (sym c.in-Join.ensures) (by_entry c.in-Join.a c.in-Join.b c.args.x c.args.y c.args.listed c.if-listed-ge-MOST.false)
