-- The node is `Handle::nobody`'s and the notices are none. Assumes nothing.
use mathlib.Core.Path.{ap₂}
use borrow.Author.Rules.{rules}
use Rattle.kinds.specs.declared.Handle.{Handle}
use Rattle.outcome_notices.specs.declared.Notices.{Notices}
use Rattle.call_told.specs.declared.Answer.{Answer}
use Rattle.call_told.proofs.Answer.refused.Goals as goal

pub returns : goal.returns
returns c = ap₂ {C = Answer} (λ (h : Handle) (n : Notices). record { number = c.args.number; node = h; notices = n }) c.nobody-node.ensures c.none-notices.ensures
