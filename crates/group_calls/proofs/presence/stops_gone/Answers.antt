-- Each stop is asked for itself. Assumes nothing.
use Rattle.std.proofs.Common.{◌∙◌, take, rules}
use borrow.Author.Tests.{tests}
use Rattle.std.proofs.lemmas.Iterator.{YieldsList-from_slice}
use Rattle.std.proofs.lemmas.Iterator.Search.{any_from_yields_List}
use Rattle.ledger_spec.specs.Tests.{any}
use Rattle.ledger_spec.specs.GroupCalls.{stale_code, handles_of}
use Rattle.bench_views.specs.View.{view}
use Rattle.group_handles.proofs.Handles.{stops_by_any}
use Rattle.group_calls.proofs.presence.stops_gone.Goals as goal

pub returns : goal.returns
returns c =
    let gone = stale_code (view c.args.b.now) in
    any_from_yields_List (λ x. any gone (handles_of x.obstacle)) _ _ c.any.result c.any.ensures.ran
    (YieldsList-from_slice (take c.args.n c.args.stops) cc) (λ x b q k. search (rules, tests))
    ∙ stops_by_any gone (take c.args.n c.args.stops)
