-- The entries, then the stops. Assumes nothing.
use Rattle.ledger_spec.specs.GroupCalls.{stale_code, list_handles, stop_handles}
use Rattle.bench_views.specs.View.{view}
use Rattle.group_lent.specs.Place.{list_in, stops_in}
use Rattle.group_lent.proofs.Seen.{is_listing}
use Rattle.group_lent_nodes.proofs.Turns.{front_has, back_has, growth_has, group_names}
use Rattle.group_lent_nodes.proofs.group_gone.Goals as goal

pub returns-then-w-eq1 : goal.returns-then-w-eq1
returns-then-w-eq1 c = growth_has (stale_code (view c.args.b.now)) c.args.w.now c.if-w-eq1.true

pub returns-then-list_gone : goal.returns-then-list_gone
returns-then-list_gone c =
    let w = c.args.w.now in
    let gone = stale_code (view c.args.b.now) in
    let names = group_names gone w (is_listing w c.requires.sound_group c.if-w-eq1.false).kind in
    front_has gone _ (list_handles (list_in w)) (stop_handles (stops_in w)) names _ c.list_gone.ensures c.if-list_gone.true

pub returns-else-list_gone : goal.returns-else-list_gone
returns-else-list_gone c =
    let w = c.args.w.now in
    let gone = stale_code (view c.args.b.now) in
    let names = group_names gone w (is_listing w c.requires.sound_group c.if-w-eq1.false).kind in
    back_has gone _ (list_handles (list_in w)) (stop_handles (stops_in w)) names _ c.list_gone.ensures c.if-list_gone.false _ c.stops_gone.ensures
