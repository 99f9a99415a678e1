-- The call on sound words answers; a refusal tells nothing, and a growth tells its length. Assumes nothing.
use mathlib.Core.Path.{refl}
use Rattle.ledger_laws.proofs.Answered.{node_of}
use Rattle.bench_views.specs.View.{view}
use Rattle.refuse_calls.proofs.Lengths.{again}
use Rattle.outcome_notices.proofs.Tells.{tells_grown}
use Rattle.dual_ledger.proofs.Settling.{same_length}
use Rattle.dual_ledger.proofs.Telling.{told_stops, told_goes, told_as}
use borrow.Author.Rules.{rules}
use Rattle.dual_ledger.proofs.told_calls.dual_ledger_told_grow.Goals as goal

pub returns-then-made-ne0 : goal.returns-then-made-ne0
returns-then-made-ne0 c =
    told_as _ (same_length _ c.ranges.length) (told_stops c.grow-made.ensures.0 c.if-made-ne0.true _ c.refused.ensures)

pub returns : goal.returns
unfolding node_of
returns c =
    told_as _ (same_length _ c.ranges.length) (told_goes c.grow-made.ensures.0 c.if-made-ne0.false refl (tells_grown (view c.args.bench.now) c.args.unit (again c.args.length)) _ c.grown.ensures)
