-- The tests decide; what the circle tells is written before the work. Assumes nothing.
use mathlib.Core.Path.{refl, sym, ap, ◌∙◌}
use Rattle.ledger_spec.specs.Calls.{Expand}
use Rattle.ledger_spec.specs.Named.{handle_named}
use Rattle.ledger_spec.specs.Tests.{first}
use Rattle.ledger_spec.specs.Refuse.{expand_tests}
use Rattle.ledger_laws.proofs.Answered.{tests_of, deed_of, node_of}
use Rattle.bench_views.specs.View.{view}
use Rattle.outcomes.proofs.Answers.{did, refused}
use Rattle.outcome_notices.proofs.Tells.{tells_expand}
use Rattle.call_sound.proofs.Settling.{fits}
use Rattle.call_told.proofs.Telling.{ring_of}
use Rattle.dual_ledger.proofs.Telling.{told_stops, told_goes, told_as}
use borrow.Author.Rules.{rules}
use Rattle.dual_ledger.proofs.told_calls.dual_ledger_told_expand_blossom.Goals as goal

pub returns-then-number-ne0 : goal.returns-then-number-ne0
unfolding tests_of
returns-then-number-ne0 c =
    let h = c.hand-h in
    let n = c.expand_number-number in
    let b = c.args.bench.now in
    let q = c.if-number-ne0.true in
    told_as _ (ap (Expand c.args.unit) h.ensures)
    (told_stops (refused b (Expand c.args.unit (handle_named h.result)) c.requires b n.result q n.ensures refl).0 q _ c.refused.ensures)

pub expanded-requires : goal.expanded-requires
expanded-requires c =
    ring_of c.args.bench.now c.requires c.args.unit (handle_named c.hand-h.result) c.expand_number-number.result c.expand_number-number.ensures c.if-number-ne0.false

pub remove_blossom-requires : goal.remove_blossom-requires
remove_blossom-requires c =
    let h = handle_named c.hand-h.result in
    fits c.args.bench.now c.requires (first (expand_tests (view c.args.bench.now) c.args.unit h)) c.expand_number-number.result c.expand_number-number.ensures c.if-number-ne0.false

pub returns : goal.returns
unfolding tests_of deed_of node_of
returns c =
    let h = c.hand-h in
    let n = c.expand_number-number in
    let b = c.args.bench.now in
    let k = handle_named h.result in
    let z = sym n.ensures ∙ c.if-number-ne0.false in
    told_as _ (ap (Expand c.args.unit) h.ensures)
    (told_goes (did b (Expand c.args.unit k) c.requires _ h.result z c.remove_blossom.ensures refl).0 refl refl (tells_expand (view b) c.args.unit k) _ c.expanded.ensures)
