-- `meet` goes by the tests of the definition. Assumes nothing.
use Rattle.group_lent_stops.proofs.Branches.{met_keep, met_replace, met_drop, met_full, met_join}
use Rattle.group_lent_stops.proofs.meet.Goals as goal

pub returns-then-f-eq5 : goal.returns-then-f-eq5
returns-then-f-eq5 c = met_keep c.args.w.now c.args.f c.args.v c.args.p c.if-f-eq5.true

pub returns-then-w-at-eq5 : goal.returns-then-w-at-eq5
returns-then-w-at-eq5 c = met_replace c.args.w.now c.args.f c.args.v c.args.p c.if-f-eq5.false c.if-w-at-eq5.true _ c.put_stop.ensures

pub returns-then-same_node : goal.returns-then-same_node
returns-then-same_node c = met_drop c.args.w.now c.args.f c.args.v c.args.p c.if-f-eq5.false c.if-w-at-eq5.false _ c.same_node.ensures c.if-same_node.true

pub returns-then-w-ge128 : goal.returns-then-w-ge128
returns-then-w-ge128 c =
    met_full c.args.w.now c.args.f c.args.v c.args.p c.if-f-eq5.false c.if-w-at-eq5.false _ c.same_node.ensures c.if-same_node.false c.if-w-ge128.true

pub returns : goal.returns
returns c =
    met_join c.args.w.now c.args.f c.args.v c.args.p c.if-f-eq5.false c.if-w-at-eq5.false _ c.same_node.ensures c.if-same_node.false c.if-w-ge128.false _ c.join.ensures
