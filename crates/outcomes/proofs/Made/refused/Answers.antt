-- The node is `Handle::nobody`'s. Assumes nothing.
use mathlib.Core.Path.{ap}
use borrow.Author.Rules.{rules}
use Rattle.kinds.specs.declared.Handle.{Handle}
use Rattle.outcomes.proofs.Made.refused.Goals as goal

pub returns : goal.returns
returns c = ap (λ (h : Handle). record { number = c.args.number; node = h }) c.nobody-node.ensures
