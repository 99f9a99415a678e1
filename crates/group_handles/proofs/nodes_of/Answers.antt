-- `nodes_of` goes by the obstacle, and by a stop's pair. Assumes nothing.
use Rattle.std.specs.Prelude.{Option}
use Rattle.kinds.specs.declared.Pair.{Pair}
use mathlib.Core.Path.{sym, ap, ◌∙◌}
use mathlib.Core.List.{◌∷◌}
use Rattle.ledger_spec.specs.GroupCalls.{handles_of, pair_handles}
use borrow.Author.Rules.{rules}
use Rattle.group_handles.proofs.nodes_of.Goals as goal

pub returns-in-NonZeroGrow : goal.returns-in-NonZeroGrow
unfolding handles_of
returns-in-NonZeroGrow c = sym (ap handles_of c.in-NonZeroGrow.is)

pub returns-in-Conflicting : goal.returns-in-Conflicting
unfolding handles_of
returns-in-Conflicting c = sym (ap handles_of c.in-Conflicting.is)

pub returns-in-TouchingVirtual : goal.returns-in-TouchingVirtual
unfolding handles_of
returns-in-TouchingVirtual c = sym (ap handles_of c.in-TouchingVirtual.is)

pub returns-in-BlossomNeedExpand : goal.returns-in-BlossomNeedExpand
unfolding handles_of
returns-in-BlossomNeedExpand c = sym (ap handles_of c.in-BlossomNeedExpand.is)

pub returns-in-None : goal.returns-in-None
unfolding handles_of
returns-in-None c = sym (ap handles_of c.in-VertexShrinkStop.is ∙ ap (λ (m : Option Pair). c.in-VertexShrinkStop.n ∷ pair_handles m) c.in-None.is)

pub returns-in-Some : goal.returns-in-Some
unfolding handles_of
returns-in-Some c =
    sym (ap handles_of c.in-VertexShrinkStop.is ∙ ap (λ (m : Option Pair). c.in-VertexShrinkStop.n ∷ pair_handles m) c.in-Some.is)
