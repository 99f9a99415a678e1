-- One after the other. Assumes nothing.
use mathlib.Core.Path.{refl}
use Rattle.ledger_spec.specs.GroupCalls.{stale_code}
use Rattle.bench_views.specs.View.{view}
use Rattle.group_lent_nodes.proofs.Turns.{one_has, first_has, rest_has}
use Rattle.group_lent_nodes.proofs.two_gone.Goals as goal

pub returns-then-is_gone : goal.returns-then-is_gone
returns-then-is_gone c = first_has (stale_code (view c.args.b.now)) _ _ _ refl _ c.is_gone.ensures c.if-is_gone.true

pub returns-else-is_gone : goal.returns-else-is_gone
returns-else-is_gone c =
    let gone = stale_code (view c.args.b.now) in
    rest_has gone _ _ _ refl _ c.is_gone.ensures c.if-is_gone.false _ (one_has gone _ _ _ refl c.is_gone-else-is_gone.ensures)
