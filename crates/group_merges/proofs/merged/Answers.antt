-- `merged` makes one turn of the pass a turn of its loop; what the pass comes to by a turn is `After` it. Assumes nothing.
use Rattle.std.proofs.Common.{◌+◌, ◌<◌, ◌≤◌, length, take, drop, ◌++◌, ◌∙◌, subst, arith}
use mathlib.Core.Logic.{inl, inr}
use Rattle.ledger_spec.specs.Groups.{add_stops}
use Rattle.groups.specs.View.{no_stop}
use Rattle.group_merges.specs.declared.Turn.{Turn}
use Rattle.group_merges.specs.declared.Turn.TheVariants.{Put, Enter}
use Rattle.group_merges.proofs.Passes.{After, next_turn, ended, closes}
use Rattle.group_merges.proofs.Answers.{no-room-left, all-merged}
use Rattle.group_merges.proofs.merged.Goals as goal
use Rattle.group_merges.proofs.merged.Goals.{In-Put, In-Enter, After-refused, then-i-n, else-i-n}

-- what the pass comes to by the turn that was found
put : (c : In-Put) → After c.args.g.stops c.args.other c.args.g.list c.args.g.stopped c.args.m (add_stops (take c.args.m c.args.other) (take c.args.listed c.args.list) (take c.args.g.stopped c.args.g.stops)) c.loop-j.entries c.loop-j.out c.loop-j.at c.loop-j.i c.loop-j.j c.loop-j.k c.if-i-n.turn
put c =
    let own : c.args.g.stopped ≤ length c.args.g.stops = omega arith in
    let other : c.args.m ≤ length c.args.other = omega arith in
    next_turn c.args.g.stops c.args.other c.args.g.list c.args.g.stopped c.args.m own other (add_stops (take c.args.m c.args.other) (take c.args.listed c.args.list) (take c.args.g.stopped c.args.g.stops)) c.loop-j.entries c.loop-j.out c.loop-j.at c.loop-j.i c.loop-j.j c.loop-j.k no_stop c.loop-j.invariant c.loop-j-test.true c.if-i-n.turn
    (elim c.if-i-n.branch [
      | then-i-n w ↦ inl (w.if-i-n.true, w.turn-is ∙ w.turn_of-turn.ensures)
      | else-i-n w ↦ inr (w.if-i-n.false, w.turn-is ∙ c.comes_in-turn.ensures)
    ])

-- what the pass comes to by the turn that was found
entered : (c : In-Enter) → After c.args.g.stops c.args.other c.args.g.list c.args.g.stopped c.args.m (add_stops (take c.args.m c.args.other) (take c.args.listed c.args.list) (take c.args.g.stopped c.args.g.stops)) c.loop-j.entries c.loop-j.out c.loop-j.at c.loop-j.i c.loop-j.j c.loop-j.k c.if-i-n.turn
entered c =
    let own : c.args.g.stopped ≤ length c.args.g.stops = omega arith in
    let other : c.args.m ≤ length c.args.other = omega arith in
    next_turn c.args.g.stops c.args.other c.args.g.list c.args.g.stopped c.args.m own other (add_stops (take c.args.m c.args.other) (take c.args.listed c.args.list) (take c.args.g.stopped c.args.g.stops)) c.loop-j.entries c.loop-j.out c.loop-j.at c.loop-j.i c.loop-j.j c.loop-j.k no_stop c.loop-j.invariant c.loop-j-test.true c.if-i-n.turn
    (elim c.if-i-n.branch [
      | then-i-n w ↦ inl (w.if-i-n.true, w.turn-is ∙ w.turn_of-turn.ensures)
      | else-i-n w ↦ inr (w.if-i-n.false, w.turn-is ∙ c.comes_in-turn.ensures)
    ])

-- what the pass comes to by the turn that was found
filled : (c : After-refused) → After c.args.g.stops c.args.other c.args.g.list c.args.g.stopped c.args.m (add_stops (take c.args.m c.args.other) (take c.args.listed c.args.list) (take c.args.g.stopped c.args.g.stops)) c.loop-j.entries c.loop-j.out c.loop-j.at c.loop-j.i c.loop-j.j c.loop-j.k c.if-i-n.turn
filled c =
    let own : c.args.g.stopped ≤ length c.args.g.stops = omega arith in
    let other : c.args.m ≤ length c.args.other = omega arith in
    next_turn c.args.g.stops c.args.other c.args.g.list c.args.g.stopped c.args.m own other (add_stops (take c.args.m c.args.other) (take c.args.listed c.args.list) (take c.args.g.stopped c.args.g.stops)) c.loop-j.entries c.loop-j.out c.loop-j.at c.loop-j.i c.loop-j.j c.loop-j.k no_stop c.loop-j.invariant c.loop-j-test.true c.if-i-n.turn
    (elim c.if-i-n.branch [
      | then-i-n w ↦ inl (w.if-i-n.true, w.turn-is ∙ w.turn_of-turn.ensures)
      | else-i-n w ↦ inr (w.if-i-n.false, w.turn-is ∙ c.comes_in-turn.ensures)
    ])

put_lem : (c : In-Put) → After c.args.g.stops c.args.other c.args.g.list c.args.g.stopped c.args.m (add_stops (take c.args.m c.args.other) (take c.args.listed c.args.list) (take c.args.g.stopped c.args.g.stops)) c.loop-j.entries c.loop-j.out c.loop-j.at c.loop-j.i c.loop-j.j c.loop-j.k (Put c.in-Put.z c.in-Put.a c.in-Put.b)
put_lem c = subst (λ (t : Turn). After c.args.g.stops c.args.other c.args.g.list c.args.g.stopped c.args.m (add_stops (take c.args.m c.args.other) (take c.args.listed c.args.list) (take c.args.g.stopped c.args.g.stops)) c.loop-j.entries c.loop-j.out c.loop-j.at c.loop-j.i c.loop-j.j c.loop-j.k t) c.in-Put.is (put c)

entered_lem : (c : In-Enter) → After c.args.g.stops c.args.other c.args.g.list c.args.g.stopped c.args.m (add_stops (take c.args.m c.args.other) (take c.args.listed c.args.list) (take c.args.g.stopped c.args.g.stops)) c.loop-j.entries c.loop-j.out c.loop-j.at c.loop-j.i c.loop-j.j c.loop-j.k (Enter c.in-Enter.e)
entered_lem c = subst (λ (t : Turn). After c.args.g.stops c.args.other c.args.g.list c.args.g.stopped c.args.m (add_stops (take c.args.m c.args.other) (take c.args.listed c.args.list) (take c.args.g.stopped c.args.g.stops)) c.loop-j.entries c.loop-j.out c.loop-j.at c.loop-j.i c.loop-j.j c.loop-j.k t) c.in-Enter.is (entered c)

put_fits : (c : In-Put) → (c.loop-j.k < 128) × ((c.loop-j.i + c.in-Put.a ≤ 128) × (c.loop-j.j + c.in-Put.b ≤ 128))
put_fits c =
    let M = (put_lem c).1 in
    (omega (arith, M.room), (omega (arith, M.own_in), omega (arith, M.other_in)))

pub bounds-out-k : goal.bounds-out-k
bounds-out-k c = (put_fits c).0

pub overflow_add-i : goal.overflow_add-i
overflow_add-i c = omega (arith, put_fits c)

pub overflow_add-j : goal.overflow_add-j
overflow_add-j c = omega (arith, put_fits c)

pub loop-j-smaller-in-Put : goal.loop-j-smaller-in-Put
loop-j-smaller-in-Put c =
    let M = (put_lem c).1 in
    omega (arith, (put_lem c).0, M.own_in, M.other_in)

pub loop-j-preserved-in-Put : goal.loop-j-preserved-in-Put
loop-j-preserved-in-Put c = (put_lem c).1

pub bounds-entries-at : goal.bounds-entries-at
bounds-entries-at c =
    let M = entered_lem c in
    omega (arith, M.few)

pub loop-j-preserved : goal.loop-j-preserved
loop-j-preserved c = entered_lem c

pub returns-in-Full : goal.returns-in-Full
returns-in-Full c =
    let own : c.args.g.stopped ≤ length c.args.g.stops = omega arith in
    c.refused.ensures ∙ no-room-left c.args.g own (take c.args.m c.args.other) (take c.args.listed c.args.list) (subst (λ (t : Turn). After c.args.g.stops c.args.other c.args.g.list c.args.g.stopped c.args.m (add_stops (take c.args.m c.args.other) (take c.args.listed c.args.list) (take c.args.g.stopped c.args.g.stops)) c.loop-j.entries c.loop-j.out c.loop-j.at c.loop-j.i c.loop-j.j c.loop-j.k t) c.in-Full.is (filled c))

pub returns : goal.returns
returns c =
    let own : c.args.g.stopped ≤ length c.args.g.stops = omega arith in
    let other : c.args.m ≤ length c.args.other = omega arith in
    c.ended.ensures ∙ all-merged c.args.g own (take c.args.m c.args.other) (take c.args.listed c.args.list) (take c.loop-j.at c.loop-j.entries) (take c.loop-j.k c.loop-j.out ++ drop c.loop-j.i (take c.args.g.stopped c.args.g.stops)) _
    (ended c.args.g.stops c.args.other c.args.g.list c.args.g.stopped c.args.m own other (add_stops (take c.args.m c.args.other) (take c.args.listed c.args.list) (take c.args.g.stopped c.args.g.stops)) c.loop-j.entries c.loop-j.out c.loop-j.at c.loop-j.i c.loop-j.j c.loop-j.k c.loop-j.invariant c.loop-j-test.false)
    (closes c.args.g.stops c.args.other c.args.g.list c.args.g.stopped c.args.m own other (add_stops (take c.args.m c.args.other) (take c.args.listed c.args.list) (take c.args.g.stopped c.args.g.stops)) c.loop-j.entries c.loop-j.out c.loop-j.at c.loop-j.i c.loop-j.j c.loop-j.k c.loop-j.invariant c.loop-j-test.false)
